-- What goes up and down, whatever the order of the services.
use Rattle.std.proofs.Common.{◌≡◌, ℕ, true, false, cond, Option, Some, None, List, [], ◌∷◌, ◌++◌, refl, ap, sym, ◌∙◌, append_assoc, append-nil, length, suc, arith}
use Rattle.std.specs.Prelude.{option_to_list}
use Rattle.std.proofs.lemmas.Bool.{ne_eqb}
use Rattle.strm_msg.specs.Message.{Msg, data_msg}
use Rattle.strm_msg.specs.declared.words.Side.{Side}
use Rattle.strm_msg.specs.declared.words.Side.TheVariants.{Rd, Wr}
use Rattle.strm_module.specs.Kinds.{OutList, Action}
use Rattle.port_termio.specs.declared.modes.Modes.{Modes}
use Rattle.port_termio.specs.Edit.{Editing, Typed, and_then, is_empty, typed}
use Rattle.port_termio.specs.Typing.{typed_on, as_typed}
use Rattle.port_termio.proofs.TypingLemmas.{and_then-assoc, pieces_are_one_typing}
use Rattle.port_termio.proofs.MessageLemmas.{message_is_typed}
use Rattle.port_ldterm_module.specs.declared.ldterm.Ldterm.{Ldterm}
use Rattle.port_ldterm_module.specs.declared.kinds.Discipline.{Discipline}
use Rattle.port_ldterm_module.specs.declared.kinds.Discipline.TheVariants.{Terminal}
use Rattle.port_ldterm_module.specs.Ldterm.{keys_come, typed_by, line_up, typing, up_sent}
use Rattle.port_ldterm_module.specs.LdtermLaws.{Event, Comes, Sends, happens, all_happen, keys_of, all_keys, line_of, screen_of, sent, waiting, promised, LinesAreSent}

-- ---- words that the laws share

pub some_byte : (byte : ℕ) (bytes : List ℕ) → is_empty (byte ∷ bytes) ≡ false
some_byte byte bytes = ne_eqb (suc (length bytes)) 0 (λ e. omega arith)

-- a message behind which others were sent
abbrev of_one : Side → Msg → Typed
of_one side m = record { lines = line_of side m; line = []; screen = screen_of side m }

pub sent-append : (first rest : OutList) → sent (first ++ rest) ≡ and_then (sent first) (sent rest)
sent-append [] rest = refl
sent-append (out ∷ outs) rest =
    ap (and_then (of_one out.0 out.1)) (sent-append outs rest) ∙ and_then-assoc (of_one out.0 out.1) (sent outs) (sent rest)

pub sent-line : (up : Option (List ℕ)) → sent (line_up up) ≡ record { lines = option_to_list up; line = []; screen = [] }
sent-line None = refl
sent-line (Some line) = refl

-- one event, and then others
abbrev pub followed : Action Discipline → List Event → Action Discipline
followed first events =
    let rest = all_happen first.kind events in record { kind = rest.kind; outs = first.outs ++ rest.outs }

pub happened : (t after last : Ldterm) (event : Event) (events : List Event) (outs more : OutList) → happens (Terminal t) event ≡ record { kind = Terminal after; outs = outs } → all_happen (Terminal after) events ≡ record { kind = Terminal last; outs = more } → all_happen (Terminal t) (event ∷ events) ≡ record { kind = Terminal last; outs = outs ++ more }
happened t after last event events outs more first rest =
    ap (λ (action : Action Discipline). followed action events) first
    ∙ ap (λ (action : Action Discipline). let all : Action Discipline = record { kind = action.kind; outs = outs ++ action.outs } in all) rest

-- a terminal by what it keeps
abbrev pub terminal : Editing → List ℕ → List ℕ → List ℕ → Ldterm
terminal editor keys up echo = record { editor = editor; keys = keys; up = up; echo = echo }

-- ---- with ICANON

-- what is typed in one turn, and the keys that are left, make what all keys make
on_whole : (modes : Modes) (line keys more : List ℕ) → modes.icanon ≡ true → let did = typed_on modes line keys in typed modes line (keys ++ more) ≡ and_then (as_typed did) (typed modes did.line (did.left ++ more))
on_whole modes line keys more h =
    let did = typed_on modes line keys in
    let all = typed modes line keys in
    let rest = typed modes did.line did.left in
    pieces_are_one_typing modes line keys more
    ∙ ap (λ (a : Typed). and_then a (typed modes a.line more)) (message_is_typed modes line keys h)
    ∙ sym (and_then-assoc (as_typed did) rest (typed modes rest.line more))
    ∙ ap (and_then (as_typed did)) (sym (pieces_are_one_typing modes did.line did.left more))

-- one event does what is promised, and leaves the rest of it
record Goes (t : Ldterm) (event : Event) (after : Ldterm) (outs : OutList) : Type 0 where
  happened : happens (Terminal t) event ≡ record { kind = Terminal after; outs = outs }
  modes : after.editor.modes ≡ t.editor.modes
  typed : (more : List ℕ) → promised t (keys_of event ++ more) ≡ and_then (sent outs) (promised after more)

abbrev One : Ldterm → Event → Type 0
One t event = (after : Ldterm) × (outs : OutList) × Goes t event after outs

comes : (t : Ldterm) (keys : List ℕ) → Goes t (Comes keys) (keys_come t keys) []
comes t keys =
    record {
      happened = refl;
      modes = refl;
      typed = λ more. ap (λ k. and_then (waiting t) (typed t.editor.modes t.editor.line k)) (sym (append_assoc t.keys keys more));
    }

-- what is behind the bytes that are shown
abbrev showing : List (List ℕ) → List ℕ → Typed → Typed
showing lines bytes rest = record { lines = lines ++ rest.lines; line = rest.line; screen = bytes ++ rest.screen }

echoes : (t : Ldterm) → Goes t (Sends Wr) (record t { echo = [] }) ((Wr, data_msg 0 t.echo) ∷ [])
echoes t =
    record {
      happened = refl;
      modes = refl;
      typed = λ more. ap (λ bytes. showing (waiting t).lines bytes (typed t.editor.modes t.editor.line (t.keys ++ more))) (sym (append-nil t.echo));
    }

goes_up : (editor : Editing) (keys echo : List ℕ) (byte : ℕ) (up : List ℕ) → Goes (terminal editor keys (byte ∷ up) echo) (Sends Rd) (terminal editor keys [] echo) ((Rd, data_msg 0 (byte ∷ up)) ∷ [])
goes_up editor keys echo byte up =
    let t = terminal editor keys (byte ∷ up) echo in
    let no = some_byte byte up in
    record {
      happened = ap (λ b. cond b (typing t) (up_sent t)) no;
      modes = refl;
      typed = λ more. ap (λ b. showing (cond b [] ((byte ∷ up) ∷ [])) echo (typed editor.modes editor.line (keys ++ more))) no;
    }

types : (editor : Editing) (keys echo : List ℕ) → editor.modes.icanon ≡ true → let t = terminal editor keys [] echo in let did = typed_on editor.modes editor.line keys in Goes t (Sends Rd) (typed_by t did) (line_up did.up)
types editor keys echo h =
    let t = terminal editor keys [] echo in
    let did = typed_on editor.modes editor.line keys in
    let after = typed_by t did in
    record {
      happened = refl;
      modes = refl;
      typed = λ more.
          let rest = typed editor.modes did.line (did.left ++ more) in
          ap (and_then (waiting t)) (on_whole editor.modes editor.line keys more h)
          ∙ ap (λ s. let all : Typed = record { lines = option_to_list did.up ++ rest.lines; line = rest.line; screen = s } in all) (sym (append_assoc echo did.screen rest.screen))
          ∙ ap (λ s. and_then s (promised after more)) (sym (sent-line did.up));
    }

reads : (editor : Editing) (keys up echo : List ℕ) → editor.modes.icanon ≡ true → One (terminal editor keys up echo) (Sends Rd)
reads editor keys [] echo h =
    let did = typed_on editor.modes editor.line keys in
    (typed_by (terminal editor keys [] echo) did, line_up did.up, types editor keys echo h)
reads editor keys (byte ∷ up) echo h =
    (terminal editor keys [] echo, (Rd, data_msg 0 (byte ∷ up)) ∷ [], goes_up editor keys echo byte up)

one : (t : Ldterm) (event : Event) → t.editor.modes.icanon ≡ true → One t event
one t (Comes keys) h = (keys_come t keys, [], comes t keys)
one t (Sends Rd) h = reads t.editor t.keys t.up t.echo h
one t (Sends Wr) h = (record t { echo = [] }, (Wr, data_msg 0 t.echo) ∷ [], echoes t)

pub lines_are_sent : LinesAreSent
lines_are_sent t [] h = (t, [], record { happened = refl; modes = refl; typed = refl })
lines_are_sent t (event ∷ events) h =
    let first = one t event h in
    let rest = lines_are_sent first.0 events (ap (λ (m : Modes). m.icanon) first.2.modes ∙ h) in
    let left = promised rest.0 [] in (
      rest.0,
      first.1 ++ rest.1,
      record {
        happened = happened t first.0 rest.0 event events first.1 rest.1 first.2.happened rest.2.happened;
        modes = rest.2.modes ∙ first.2.modes;
        typed =
            first.2.typed (all_keys events)
            ∙ ap (and_then (sent first.1)) rest.2.typed
            ∙ and_then-assoc (sent first.1) (sent rest.1) left
            ∙ ap (λ s. and_then s left) (sym (sent-append first.1 rest.1));
      },
    )
