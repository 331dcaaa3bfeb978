-- Messages that go over a link, one more at a time.
use Rattle.std.proofs.Common.{◌≡◌, ℕ, ◌+◌, ◌*◌, ◌≤◌, true, Option, Some, None, List, [], ◌∷◌, ◌++◌, length, append-nil, append_assoc, All, refl, sym, ◌∙◌, ap, subst, arith}
use Rattle.std.specs.Prelude.{IfSome}
use Rattle.std.specs.Option.{option_to_list}
use Rattle.std.proofs.lemmas.List.{length-append, length_push}
use Rattle.std.proofs.lemmas.List.Elements.{All-cons, All-nil}
use Rattle.strm_msg.specs.Message.{Msg}
use Rattle.strm_msg.specs.Kind.{is_from_line}
use Rattle.strm_link.specs.declared.act.Act.{Act}
use Rattle.strm_link.specs.declared.act.Act.TheVariants.{Keep, Lose, Double, Hold}
use Rattle.strm_link.specs.Rule.{act_of}
use Rattle.strm_link.specs.Link.{LinkValue, leaves, held_after, passed, out_of, after_of}
use Rattle.strm_link.specs.Subsequence.{IsSubsequence}
use Rattle.strm_shared_ring.specs.Feed.{FeedValue, with_accepted, with_offer}
use Rattle.strm_run_callers.specs.Carrying.{CarrierValue, Carries, Offers}
use Rattle.strm_run_callers.proofs.PartLemmas.{part_less, part_more}

-- ---- what a link passes on

-- of messages, and of others behind them
pub out_append : (link : LinkValue) (front behind : List Msg) → out_of link (front ++ behind) ≡ out_of link front ++ out_of (after_of link front) behind
out_append link [] behind = refl
out_append link (m ∷ front) behind =
    ap (λ l. leaves (act_of link.rule) m link.held ++ l) (out_append (passed link m) front behind)
    ∙ sym (append_assoc (leaves (act_of link.rule) m link.held) (out_of (passed link m) front) (out_of (after_of (passed link m) front) behind))

pub after_append : (link : LinkValue) (front behind : List Msg) → after_of link (front ++ behind) ≡ after_of (after_of link front) behind
after_append link [] behind = refl
after_append link (m ∷ front) behind = after_append (passed link m) front behind

-- of one message
pub out_one : (link : LinkValue) (m : Msg) → out_of link (m ∷ []) ≡ leaves (act_of link.rule) m link.held
out_one link m = append-nil (leaves (act_of link.rule) m link.held)

-- it is at most twice as much as was taken, but for what was held before
abbrev pub held_length : Option Msg → ℕ
held_length held = length (option_to_list held)

bound_one : (act : Act) (m : Msg) (held : Option Msg) → length (leaves act m held) + held_length (held_after act m held) ≤ 2 + held_length held
bound_one Keep m None = omega arith
bound_one Keep m (Some other) = omega arith
bound_one Lose m None = omega arith
bound_one Lose m (Some other) = omega arith
bound_one Double m None = omega arith
bound_one Double m (Some other) = omega arith
bound_one Hold m None = omega arith
bound_one Hold m (Some other) = omega arith

pub out_bound : (link : LinkValue) (messages : List Msg) → length (out_of link messages) + held_length (after_of link messages).held ≤ 2 * length messages + held_length link.held
out_bound link [] = omega arith
out_bound link (m ∷ rest) =
    omega (arith, length-append (leaves (act_of link.rule) m link.held) (out_of (passed link m) rest), out_bound (passed link m) rest, bound_one (act_of link.rule) m link.held)

-- and at most three messages at once
pub leaves_few : (act : Act) (m : Msg) (held : Option Msg) → length (leaves act m held) ≤ 3
leaves_few Keep m None = omega arith
leaves_few Keep m (Some other) = omega arith
leaves_few Lose m held = omega arith
leaves_few Double m None = omega arith
leaves_few Double m (Some other) = omega arith
leaves_few Hold m None = omega arith
leaves_few Hold m (Some other) = omega arith

-- ---- kinds

pub held_line : (act : Act) (m : Msg) (held : Option Msg) → is_from_line m.kind ≡ true → IfSome held (λ one. is_from_line one.kind ≡ true) → IfSome (held_after act m held) (λ one. is_from_line one.kind ≡ true)
held_line Keep m held is was = tt
held_line Lose m held is was = was
held_line Double m held is was = tt
held_line Hold m held is was = is

lines_held : (held : Option Msg) → IfSome held (λ one. is_from_line one.kind ≡ true) → All (λ one. is_from_line one.kind ≡ true) (option_to_list held)
lines_held None was = All-nil (λ (one : Msg). is_from_line one.kind ≡ true)
lines_held (Some m) was = All-cons (λ (one : Msg). is_from_line one.kind ≡ true) m [] was (All-nil (λ (one : Msg). is_from_line one.kind ≡ true))

pub lines_leave : (act : Act) (m : Msg) (held : Option Msg) → is_from_line m.kind ≡ true → IfSome held (λ one. is_from_line one.kind ≡ true) → All (λ one. is_from_line one.kind ≡ true) (leaves act m held)
lines_leave Keep m held is was = All-cons (λ (one : Msg). is_from_line one.kind ≡ true) m (option_to_list held) is (lines_held held was)
lines_leave Lose m held is was = All-nil (λ (one : Msg). is_from_line one.kind ≡ true)
lines_leave Double m held is was =
    All-cons (λ (one : Msg). is_from_line one.kind ≡ true) m (m ∷ option_to_list held) is (All-cons (λ (one : Msg). is_from_line one.kind ≡ true) m (option_to_list held) is (lines_held held was))
lines_leave Hold m held is was = lines_held held was

-- ---- offers

pub no_offer : (carrier : CarrierValue) → Offers carrier [] carrier
no_offer carrier = record {
  number = refl;
  part = λ given is. subst (λ l. IsSubsequence carrier.feed.accepted l) (sym (append-nil given)) is;
  all = omega arith;
}

pub offer_more : (old middle new : CarrierValue) (front behind : List Msg) → Offers old front middle → Offers middle behind new → Offers old (front ++ behind) new
offer_more old middle new front behind one other = record {
  number = other.number ∙ one.number;
  part = λ given is. subst (λ l. IsSubsequence new.feed.accepted l) (append_assoc given front behind) (other.part (given ++ front) (one.part given is));
  all = omega (arith, one.all, other.all, length-append front behind);
}

-- one that was accepted, and one that came back
pub offer_accepted : (old was : CarrierValue) (link : LinkValue) (feed : FeedValue) (m : Msg) → was ≡ old → feed ≡ with_accepted was.feed m → Offers old (m ∷ []) (record { link = link; feed = feed; overrun = was.overrun })
offer_accepted old was link feed m same is = subst (λ (c : CarrierValue). Offers c (m ∷ []) (record { link = link; feed = feed; overrun = was.overrun })) same (record {
  number = ap (λ (f : FeedValue). f.number) is;
  part = λ given part. subst (λ (f : FeedValue). IsSubsequence f.accepted (given ++ m ∷ [])) (sym is) (part_more was.feed.accepted given m part);
  all = ap (λ (f : FeedValue). length f.accepted + was.overrun) is ∙ (let n : length (was.feed.accepted ++ m ∷ []) + was.overrun ≡ length was.feed.accepted + was.overrun + 1 = omega (arith, length_push was.feed.accepted m) in n);
})

pub offer_back : (old was : CarrierValue) (link : LinkValue) (feed : FeedValue) (m : Msg) → was ≡ old → feed ≡ with_offer was.feed → Offers old (m ∷ []) (record { link = link; feed = feed; overrun = was.overrun + 1 })
offer_back old was link feed m same is = subst (λ (c : CarrierValue). Offers c (m ∷ []) (record { link = link; feed = feed; overrun = was.overrun + 1 })) same (record {
  number = ap (λ (f : FeedValue). f.number) is;
  part = λ given part. subst (λ (f : FeedValue). IsSubsequence f.accepted (given ++ m ∷ [])) (sym is) (part_less was.feed.accepted given m part);
  all = ap (λ (f : FeedValue). length f.accepted + (was.overrun + 1)) is ∙ (let n : length was.feed.accepted + (was.overrun + 1) ≡ length was.feed.accepted + was.overrun + 1 = omega arith in n);
})

-- ---- one message over a link

pub carried_one : (now was new : CarrierValue) (link : LinkValue) (m : Msg) (messages : List Msg) → was ≡ now → messages ≡ leaves (act_of was.link.rule) m was.link.held → link ≡ passed was.link m → new.link ≡ link → Offers (record { link = link; feed = was.feed; overrun = was.overrun }) messages new → Carries now (m ∷ []) new
carried_one now was new link m messages same out is stays offers = subst (λ (c : CarrierValue). Carries c (m ∷ []) new) same (record {
  link = stays ∙ is;
  offered = subst (λ l. Offers was l new) (out ∙ sym (out_one was.link m)) (record { number = offers.number; part = offers.part; all = offers.all });
})

-- nothing was taken
pub carried_none : (carrier : CarrierValue) → Carries carrier [] carrier
carried_none carrier = record { link = refl; offered = no_offer carrier }
