-- Without ICANON all keys go up as they were meant.
use Rattle.std.proofs.Common.{◌≡◌, ℕ, false, cond, List, [], ◌∷◌, ◌++◌, refl, ap, sym, ◌∙◌, append_assoc, append-nil, map}
use Rattle.std.specs.List.{concat}
use Rattle.std.proofs.lemmas.List.{map-append}
use Rattle.std.proofs.lemmas.List.Folds.{concat-append}
use Rattle.strm_msg.specs.Message.{data_msg}
use Rattle.strm_msg.specs.declared.words.Side.TheVariants.{Rd, Wr}
use Rattle.strm_module.specs.Kinds.{OutList}
use Rattle.port_termio.specs.declared.modes.Modes.{Modes}
use Rattle.port_termio.specs.Edit.{Editing, Typed, meant, typed}
use Rattle.port_termio.specs.Typing.{Typed_on, line_typed, raw_typed, typed_on}
use Rattle.port_termio.proofs.TypingLemmas.{pieces_are_one_typing}
use Rattle.port_termio.proofs.MessageLemmas.{raw_message_is_typed}
use Rattle.port_ldterm_module.specs.declared.ldterm.Ldterm.{Ldterm}
use Rattle.port_ldterm_module.specs.declared.kinds.Discipline.TheVariants.{Terminal}
use Rattle.port_ldterm_module.specs.Ldterm.{keys_come, typed_by, line_up, typing, up_sent}
use Rattle.port_ldterm_module.specs.LdtermLaws.{Event, Comes, Sends, happens, keys_of, all_keys, lines_sent, screen_sent, promised, raw_promised, RawKeysAreSent}
use Rattle.port_ldterm_module.proofs.SentLemmas.{some_byte, sent-append, sent-line, happened, terminal}

-- one event does what is promised, and leaves the rest of it
record Goes (t : Ldterm) (event : Event) (after : Ldterm) (outs : OutList) : Type 0 where
  happened : happens (Terminal t) event ≡ record { kind = Terminal after; outs = outs }
  modes : after.editor.modes ≡ t.editor.modes
  bytes : (more : List ℕ) → raw_promised t (keys_of event ++ more) ≡ concat (lines_sent outs) ++ raw_promised after more
  screen : (more : List ℕ) → (promised t (keys_of event ++ more)).screen ≡ screen_sent outs ++ (promised after more).screen

abbrev One : Ldterm → Event → Type 0
One t event = (after : Ldterm) × (outs : OutList) × Goes t event after outs

abbrev screen_typed : Ldterm → List ℕ → List ℕ
screen_typed t keys = (typed t.editor.modes t.editor.line keys).screen

comes : (t : Ldterm) (keys : List ℕ) → Goes t (Comes keys) (keys_come t keys) []
comes t keys =
    record {
      happened = refl;
      modes = refl;
      bytes = λ more. ap (λ k. t.up ++ map (meant t.editor.modes) k) (sym (append_assoc t.keys keys more));
      screen = λ more. ap (λ k. t.echo ++ screen_typed t k) (sym (append_assoc t.keys keys more));
    }

echoes : (t : Ldterm) → Goes t (Sends Wr) (record t { echo = [] }) ((Wr, data_msg 0 t.echo) ∷ [])
echoes t =
    record {
      happened = refl;
      modes = refl;
      bytes = λ more. refl;
      screen = λ more. ap (λ bytes. bytes ++ screen_typed t (t.keys ++ more)) (sym (append-nil t.echo));
    }

goes_up : (editor : Editing) (keys echo : List ℕ) (byte : ℕ) (up : List ℕ) → Goes (terminal editor keys (byte ∷ up) echo) (Sends Rd) (terminal editor keys [] echo) ((Rd, data_msg 0 (byte ∷ up)) ∷ [])
goes_up editor keys echo byte up =
    let t = terminal editor keys (byte ∷ up) echo in
    record {
      happened = ap (λ b. cond b (typing t) (up_sent t)) (some_byte byte up);
      modes = refl;
      bytes = λ more. ap (λ bytes. bytes ++ map (meant editor.modes) (keys ++ more)) (sym (append-nil (byte ∷ up)));
      screen = λ more. refl;
    }

raw_all : (modes : Modes) (line keys : List ℕ) → modes.icanon ≡ false → typed_on modes line keys ≡ raw_typed modes line keys
raw_all modes line keys h = ap (λ b. cond b (line_typed modes line keys) (raw_typed modes line keys)) h

types : (editor : Editing) (keys echo : List ℕ) → editor.modes.icanon ≡ false → let t = terminal editor keys [] echo in let did = typed_on editor.modes editor.line keys in Goes t (Sends Rd) (typed_by t did) (line_up did.up)
types editor keys echo h =
    let modes = editor.modes in
    let t = terminal editor keys [] echo in
    let did = typed_on modes editor.line keys in
    let raw = raw_message_is_typed modes editor.line keys h in
    let all = raw_all modes editor.line keys h in
    let lines : concat (lines_sent (line_up did.up)) ≡ map (meant modes) keys = ap (λ (s : Typed). concat s.lines) (sent-line did.up) ∙ raw.0 in
    record {
      happened = refl;
      modes = refl;
      bytes = λ more.
          map-append (meant modes) keys more
          ∙ ap (λ k. k ++ map (meant modes) more) (sym lines)
          ∙ ap (λ left. concat (lines_sent (line_up did.up)) ++ map (meant modes) (left ++ more)) (sym raw.2);
      screen = λ more.
          ap (λ (s : Typed). echo ++ s.screen) (pieces_are_one_typing modes editor.line keys more)
          ∙ ap (λ (d : Typed_on). echo ++ (d.screen ++ (typed modes d.line (d.left ++ more)).screen)) (sym all)
          ∙ sym (append_assoc echo did.screen (typed modes did.line (did.left ++ more)).screen)
          ∙ ap (λ (s : Typed). s.screen ++ (promised (typed_by t did) more).screen) (sym (sent-line did.up));
    }

reads : (editor : Editing) (keys up echo : List ℕ) → editor.modes.icanon ≡ false → One (terminal editor keys up echo) (Sends Rd)
reads editor keys [] echo h =
    let did = typed_on editor.modes editor.line keys in
    (typed_by (terminal editor keys [] echo) did, line_up did.up, types editor keys echo h)
reads editor keys (byte ∷ up) echo h =
    (terminal editor keys [] echo, (Rd, data_msg 0 (byte ∷ up)) ∷ [], goes_up editor keys echo byte up)

one : (t : Ldterm) (event : Event) → t.editor.modes.icanon ≡ false → One t event
one t (Comes keys) h = (keys_come t keys, [], comes t keys)
one t (Sends Rd) h = reads t.editor t.keys t.up t.echo h
one t (Sends Wr) h = (record t { echo = [] }, (Wr, data_msg 0 t.echo) ∷ [], echoes t)

pub raw_keys_are_sent : RawKeysAreSent
raw_keys_are_sent t [] h = (t, [], record { happened = refl; modes = refl; bytes = refl; screen = refl })
raw_keys_are_sent t (event ∷ events) h =
    let first = one t event h in
    let rest = raw_keys_are_sent first.0 events (ap (λ (m : Modes). m.icanon) first.2.modes ∙ h) in
    let both = sent-append first.1 rest.1 in
    let bytes = raw_promised rest.0 [] in
    let screen = (promised rest.0 []).screen in (
      rest.0,
      first.1 ++ rest.1,
      record {
        happened = happened t first.0 rest.0 event events first.1 rest.1 first.2.happened rest.2.happened;
        modes = rest.2.modes ∙ first.2.modes;
        bytes =
            first.2.bytes (all_keys events)
            ∙ ap (λ b. concat (lines_sent first.1) ++ b) rest.2.bytes
            ∙ sym (append_assoc (concat (lines_sent first.1)) (concat (lines_sent rest.1)) bytes)
            ∙ ap (λ b. b ++ bytes) (sym (concat-append (lines_sent first.1) (lines_sent rest.1)))
            ∙ ap (λ (s : Typed). concat s.lines ++ bytes) (sym both);
        screen =
            first.2.screen (all_keys events)
            ∙ ap (λ b. screen_sent first.1 ++ b) rest.2.screen
            ∙ sym (append_assoc (screen_sent first.1) (screen_sent rest.1) screen)
            ∙ ap (λ (s : Typed). s.screen ++ screen) (sym both);
      },
    )
