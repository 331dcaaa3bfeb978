-- Pieces of a history, one behind another, and the counts of calls before each.
use Rattle.std.proofs.Common.{◌≡◌, ℕ, zero, suc, ◌+◌, ◌-◌, ◌<◌, ◌≤◌, ◌==◌, ◌++◌, nat_lt, Bool, true, false, cond, Some, None, List, [], ◌∷◌, All, get_or, length, set, take, drop, ltb-false, refl, sym, ap, subst, ◌∙◌, arith, append_assoc, append-nil, slice_get}
use Rattle.std.specs.Prelude.{IfSome}
use Rattle.std.proofs.lemmas.Bool.{eqb-false, eqb-true, ltb-true}
use Rattle.std.proofs.lemmas.List.{get_or-set_same, get_or-set_other, length-set, length_push}
use Rattle.std.proofs.lemmas.List.Elements.{filter-append, All-append, All-cons, All-nil}
use Rattle.strm_msg.specs.Count.{one_more}
use Rattle.strm_module.specs.Kinds.{Meaning}
use Rattle.strm_chain_ends.specs.Image.{Image}
use Rattle.strm_head_calls.specs.declared.setup.Setup.{Setup}
use Rattle.strm_shared_entry.specs.Entry.{Entry, is_caller}
use Rattle.strm_shared_entry.specs.declared.entry.Who.{Who}
use Rattle.strm_shared_entry.specs.declared.entry.Who.TheVariants.{Caller, Line}
use Rattle.strm_shared_entry.specs.Own.{calls_of, own, entry_at}
use Rattle.strm_shared_entry.proofs.OwnLemmas.{other_step, own_step}
use Rattle.strm_shared_log.specs.History.{Legal}
use Rattle.strm_shared_log.specs.Opened.{opened}
use Rattle.strm_shared_log.specs.Piece.{capped, counted_by, entries_of, first_setup, AreCounts, LeadsOn, IsHistory}
use Rattle.strm_shared_log.specs.declared.part.Part.{Part}

-- ---- parts one behind another

pub entries_more : {K : Type 0} (parts : List (Part K)) (part : Part K) → entries_of (parts ++ part ∷ []) ≡ entries_of parts ++ part.entries.items
entries_more [] part = append-nil part.entries.items
entries_more (first ∷ parts) part =
    ap (λ l. first.entries.items ++ l) (entries_more parts part) ∙ sym (append_assoc first.entries.items (entries_of parts) part.entries.items)

pub setup_more : {K : Type 0} (parts : List (Part K)) (part : Part K) → All (λ p. p.setup ≡ part.setup) parts → first_setup (parts ++ part ∷ []) ≡ Some part.setup
setup_more [] part all = refl
setup_more (first ∷ parts) part all = ap (λ s. Some s) (all 0 first (omega arith))

pub same_setup : {K : Type 0} (parts : List (Part K)) (part : Part K) → All (λ p. p.setup ≡ part.setup) parts → IfSome (first_setup parts) (λ s. s ≡ part.setup)
same_setup [] part all = tt
same_setup (first ∷ parts) part all = all 0 first (omega arith)

pub setups_more : {K : Type 0} (setup : Setup) (parts : List (Part K)) (part : Part K) → part.setup ≡ setup → All (λ p. p.setup ≡ setup) parts → All (λ p. p.setup ≡ setup) (parts ++ part ∷ [])
setups_more {K = K} setup parts part same all =
    let has : Part K → Type 0 = λ p. p.setup ≡ setup in
    All-append has parts (part ∷ []) all (All-cons has part [] same (All-nil has))

-- what was handed out and what is kept, with one more
pub both_longer : {K : Type 0} (gone kept longer : List (Entry K)) (entry : Entry K) → longer ≡ kept ++ entry ∷ [] → gone ++ longer ≡ (gone ++ kept) ++ entry ∷ []
both_longer gone kept longer entry is = ap (λ l. gone ++ l) is ∙ sym (append_assoc gone kept (entry ∷ []))

-- ---- counts

capped_more : (n : ℕ) → one_more (capped n) ≡ capped (n + 1)
capped_more n = omega arith

calls_more : {K : Type 0} (caller : ℕ) (history : List (Entry K)) (entry : Entry K) → is_caller caller entry.who ≡ true → calls_of caller (history ++ entry ∷ []) ≡ calls_of caller history + 1
calls_more caller history entry so =
    ap (λ l. length l) (own_step caller history (history ++ entry ∷ []) entry refl so) ∙ length_push (own caller history) entry ∙ omega arith

calls_other : {K : Type 0} (caller : ℕ) (history : List (Entry K)) (entry : Entry K) → is_caller caller entry.who ≡ false → calls_of caller (history ++ entry ∷ []) ≡ calls_of caller history
calls_other caller history entry not =
    ap (λ l. length l) (other_step caller history (history ++ entry ∷ []) entry refl not)

count_length : (counts : List ℕ) (who n : ℕ) (b : Bool) → length (cond b (set counts who n) counts) ≡ length counts
count_length counts who n true = length-set counts who n
count_length counts who n false = refl

pub counted_length : (counts : List ℕ) (who : Who) → length (counted_by counts who) ≡ length counts
counted_length counts Line = refl
counted_length counts (Caller caller) = count_length counts caller (one_more (get_or counts caller 0)) (nat_lt caller (length counts))

-- a caller who did not make the step has made as many calls as before
count_other : {K : Type 0} (counts : List ℕ) (history : List (Entry K)) (entry : Entry K) (caller n : ℕ) → is_caller caller entry.who ≡ false → n ≡ capped (calls_of caller history) → n ≡ capped (calls_of caller (history ++ entry ∷ []))
count_other counts history entry caller n not was = was ∙ ap (λ k. capped k) (sym (calls_other caller history entry not))

module _ {K : Type 0} (counts : List ℕ) (history : List (Entry K)) (entry : Entry K) (was : AreCounts counts history) where
  line_counted : entry.who ≡ Line → AreCounts counts (history ++ entry ∷ [])
  line_counted is caller below =
      count_other counts history entry caller (get_or counts caller 0) (ap (λ w. is_caller caller w) is) (was caller below)

  module _ (who : ℕ) (is : entry.who ≡ Caller who) where
    abbrev one : ℕ
    one = one_more (get_or counts who 0)

    set_counted : who < length counts → (caller : ℕ) (b : Bool) → (who == caller) ≡ b → caller < length counts → get_or (set counts who one) caller 0 ≡ capped (calls_of caller (history ++ entry ∷ []))
    set_counted within caller true same below =
        let at_who : who ≡ caller = eqb-true who caller same in
        let so : is_caller caller entry.who ≡ true = ap (λ w. is_caller caller w) is ∙ same in
        ap (λ n. get_or (set counts who one) n 0) (sym at_who)
        ∙ get_or-set_same counts who one 0 within
        ∙ ap (λ n. one_more (get_or counts n 0)) at_who
        ∙ ap (λ n. one_more n) (was caller below)
        ∙ capped_more (calls_of caller history)
        ∙ ap (λ n. capped n) (sym (calls_more caller history entry so))
    set_counted within caller false other below =
        let not : is_caller caller entry.who ≡ false = ap (λ w. is_caller caller w) is ∙ other in
        get_or-set_other counts who caller one 0 (λ same. eqb-false who caller other (sym same))
        ∙ count_other counts history entry caller (get_or counts caller 0) not (was caller below)

    -- the caller that is not counted is none of those that are
    past_counted : nat_lt who (length counts) ≡ false → (caller : ℕ) (b : Bool) → (who == caller) ≡ b → caller < length counts → get_or counts caller 0 ≡ capped (calls_of caller (history ++ entry ∷ []))
    past_counted past caller true same below =
        let at_who : who ≡ caller = eqb-true who caller same in
        let above = ltb-false who (length counts) past in
        absurd (omega (arith, at_who, above, below))
    past_counted past caller false other below =
        count_other counts history entry caller (get_or counts caller 0) (ap (λ w. is_caller caller w) is ∙ other) (was caller below)

    call_counted : (b : Bool) → nat_lt who (length counts) ≡ b → AreCounts (cond b (set counts who one) counts) (history ++ entry ∷ [])
    call_counted true within caller below =
        set_counted (ltb-true who (length counts) within) caller (who == caller) refl (subst (λ n. caller < n) (length-set counts who one) below)
    call_counted false past caller below = past_counted past caller (who == caller) refl below

-- one step more is counted
counted_who : {K : Type 0} (counts : List ℕ) (history : List (Entry K)) (entry : Entry K) (who : Who) → entry.who ≡ who → AreCounts counts history → AreCounts (counted_by counts who) (history ++ entry ∷ [])
counted_who counts history entry Line is was = line_counted counts history entry was is
counted_who counts history entry (Caller who) is was = call_counted counts history entry was who is (nat_lt who (length counts)) refl

pub counted_more : {K : Type 0} (counts : List ℕ) (history longer : List (Entry K)) (entry : Entry K) (who : Who) → entry.who ≡ who → longer ≡ history ++ entry ∷ [] → AreCounts counts history → AreCounts (counted_by counts who) longer
counted_more counts history longer entry who is more was = rw more (counted_who counts history entry who is was)

-- ---- the calls of a caller among entries

parted : {K : Type 0} (entries : List (Entry K)) (at : ℕ) (entry : Entry K) → at < length entries → get_or entries at entry ≡ entry → entries ≡ take at entries ++ entry ∷ drop (suc at) entries
parted [] at entry below is = absurd (omega arith)
parted (first ∷ rest) zero entry below is = ap (λ e. e ∷ rest) is
parted (first ∷ rest) (suc at) entry below is = ap (λ l. first ∷ l) (parted rest at entry (omega arith) is)

pub take_next : {K : Type 0} (entries : List (Entry K)) (at : ℕ) (entry : Entry K) → at < length entries → get_or entries at entry ≡ entry → take (suc at) entries ≡ take at entries ++ entry ∷ []
take_next [] at entry below is = absurd (omega arith)
take_next (first ∷ rest) zero entry below is = ap (λ e. e ∷ []) is
take_next (first ∷ rest) (suc at) entry below is = ap (λ l. first ∷ l) (take_next rest at entry (omega arith) is)

-- a step behind others, and before more, is found by how many of its caller's steps come before it
found_behind : {K : Type 0} (first rest : List (Entry K)) (entry : Entry K) → slice_get (first ++ entry ∷ rest) (length first) ≡ Some entry
found_behind [] rest entry = refl
found_behind (head ∷ first) rest entry = found_behind first rest entry

pub nth_found : {K : Type 0} (entries : List (Entry K)) (at caller : ℕ) (entry : Entry K) → at < length entries → get_or entries at entry ≡ entry → is_caller caller entry.who ≡ true → slice_get (own caller entries) (length (own caller (take at entries))) ≡ Some entry
nth_found entries at caller entry below is so =
    let parts : entries ≡ take at entries ++ entry ∷ drop (suc at) entries = parted entries at entry below is in
    let owned : own caller entries ≡ own caller (take at entries) ++ entry ∷ own caller (drop (suc at) entries) =
    ap (λ l. own caller l) parts
    ∙ filter-append _ (take at entries) (entry ∷ drop (suc at) entries)
    ∙ ap (λ b. own caller (take at entries) ++ cond b (entry ∷ own caller (drop (suc at) entries)) (own caller (drop (suc at) entries))) so in
    ap (λ l. slice_get l (length (own caller (take at entries)))) owned ∙ found_behind (own caller (take at entries)) (own caller (drop (suc at) entries)) entry

none_past : {K : Type 0} (entries : List (Entry K)) (n : ℕ) → length entries ≤ n → slice_get entries n ≡ None
none_past [] n past = refl
none_past (first ∷ rest) zero past = absurd (omega arith)
none_past (first ∷ rest) (suc n) past = none_past rest n (omega arith)

-- the call of a number is found behind as many as there are before it
pub entry_found : {K : Type 0} (entries : List (Entry K)) (at caller number before : ℕ) (entry : Entry K) → at < length entries → get_or entries at entry ≡ entry → is_caller caller entry.who ≡ true → before ≡ 0 → 1 ≤ number → before + length (own caller (take at entries)) ≡ number - 1 → entry_at caller number entries ≡ Some entry
entry_found entries at caller zero before entry below is so none some left = absurd (omega (arith, some))
entry_found entries at caller (suc n) before entry below is so none some left =
    let same : n ≡ length (own caller (take at entries)) = omega (arith, none, left) in
    ap (λ k. slice_get (own caller entries) k) same ∙ nth_found entries at caller entry below is so

-- and there is none where there are fewer
pub entry_missing : {K : Type 0} (entries : List (Entry K)) (caller number before : ℕ) → 1 ≤ number → before + length (own caller entries) ≡ number - 1 → entry_at caller number entries ≡ None
entry_missing entries caller zero before some left = absurd (omega (arith, some))
entry_missing entries caller (suc n) before some left =
    none_past (own caller entries) n (omega (arith, left))

-- ---- a history that is cut in two

legal_cut : {K : Type 0} (means : Meaning K) (image : Image K) (first second : List (Entry K)) (after : Image K) → Legal means image (first ++ second) after → (mid : Image K) × Legal means image first mid × Legal means mid second after
legal_cut means image [] second after legal = (image, refl, legal)
legal_cut means image (entry ∷ first) second after legal =
    let rest = legal_cut means legal.0 first second after legal.2 in
    (rest.0, (legal.0, legal.1, rest.1), rest.2)

-- a piece leads on from the stream to which all before it has led
pub leads_on : {K : Type 0} (means : Meaning K) (setup : Setup) (before piece : List (Entry K)) → IsHistory means setup (before ++ piece) → LeadsOn means setup before piece
leads_on means setup before piece history =
    let cut = legal_cut means (opened setup) before piece history.0 history.1 in
    record { start = cut.0; after = history.0; came = cut.1; goes_on = cut.2 }
