-- What holds of every module's put and service procedures, for kinds of any meaning.
use Rattle.std.proofs.Common.{◌≡◌, ◌&&◌, not, Bool, true, false, cond, refl, Result, Ok, Err, OnOk, OnErr, IfOk}
use Rattle.std.proofs.lemmas.Bool.{and_parts}
use Rattle.strm_msg.specs.Message.{Msg}
use Rattle.strm_msg.specs.declared.words.Side.{Side}
use Rattle.strm_module.specs.Kinds.{Meaning}
use Rattle.strm_module.specs.Shape.{queues_on, IsSameModule}
use Rattle.strm_module.specs.Module.{serve_of, own_of, Taken, put_of, is_queued, waits_here, IsQueued}
use Rattle.strm_module.specs.declared.shape.Shape.{Shape}
use Rattle.strm_module.specs.declared.outs.Put.{Put}
use Rattle.strm_module.specs.declared.outs.Put.TheVariants.{Queue, Sent}

module _ {K : Type 0} (means : Meaning K) where
  -- a service changes nothing but what the kind keeps
  pub serve_of_same : (s : Shape K) (side : Side) (m : Msg) → IsSameModule s (serve_of means s side m).shape
  serve_of_same s side m = record { serial = refl; name = refl; rd = refl; wr = refl; noenable = refl }

  abbrev pub put_if : Shape K → Side → Msg → Bool → Taken K
  put_if s side m queued =
      cond queued (record { shape = s; answer = Queue m })
      (record { shape = (serve_of means s side m).shape; answer = Sent (record { items = (serve_of means s side m).outs }) })

  -- nor does a put
  pub put_of_same : (s : Shape K) (side : Side) (m : Msg) → IsSameModule s (put_of means s side m).shape
  put_of_same s side m =
      elim (is_queued s side m) as (λ b. IsSameModule s (put_if s side m b).shape) [
        | true ↦ record { serial = refl; name = refl; rd = refl; wr = refl; noenable = refl }
        | false ↦ serve_of_same s side m
      ]

  -- a message is queued as it came, on a side with marks
  pub put_of_queued : (s : Shape K) (side : Side) (m : Msg) → IsQueued (put_of means s side m).answer side m s (put_of means s side m).shape
  put_of_queued s side m =
      elim (is_queued s side m) as (λ b. is_queued s side m ≡ b → IsQueued (put_if s side m b).answer side m s (put_if s side m b).shape) [
        | true ↦ λ e. record { same = refl; queues = (and_parts (waits_here s m) (queues_on s side) e).1; waits = (and_parts (waits_here s m) (queues_on s side) e).0; shape = refl }
        | false ↦ λ e. tt
      ] refl

  -- so the module is the same whatever a procedure answers
  pub put_keeps : {E : Type 0} (r : Result Put E) (old new : Shape K) (side : Side) (m : Msg) → OnOk r (new ≡ (put_of means old side m).shape) → OnErr r (new ≡ old) → IsSameModule old new
  put_keeps (Ok put) old new side m after err = rw after (put_of_same old side m)
  put_keeps (Err fault) old new side m after err = rw err (record { serial = refl; name = refl; rd = refl; wr = refl; noenable = refl })

  pub serve_keeps : {T E : Type 0} (r : Result T E) (old new : Shape K) (side : Side) (m : Msg) → OnOk r (new ≡ (serve_of means old side m).shape) → OnErr r (new ≡ old) → IsSameModule old new
  serve_keeps (Ok outs) old new side m after err = rw after (serve_of_same old side m)
  serve_keeps (Err fault) old new side m after err = rw err (record { serial = refl; name = refl; rd = refl; wr = refl; noenable = refl })

  pub put_queues : {E : Type 0} (r : Result Put E) (old new : Shape K) (side : Side) (m : Msg) → IfOk r (λ put. put ≡ (put_of means old side m).answer) → OnOk r (new ≡ (put_of means old side m).shape) → IfOk r (λ put. IsQueued put side m old new)
  put_queues (Ok put) old new side m answer after = rw (answer, after) (put_of_queued old side m)
  put_queues (Err fault) old new side m answer after = answer

  pub own_keeps : {T F : Type 0} (r : Result T F) (old new : Shape K) (side : Side) → OnOk r (new ≡ (own_of means old side).shape) → OnErr r (new ≡ old) → IsSameModule old new
  own_keeps (Ok outs) old new side after err = rw after (record { serial = refl; name = refl; rd = refl; wr = refl; noenable = refl })
  own_keeps (Err fault) old new side after err = rw err (record { serial = refl; name = refl; rd = refl; wr = refl; noenable = refl })
