-- What is on its way goes less far with each hop.
use Rattle.std.proofs.Common.{◌≡◌, ℕ, ◌+◌, ◌-◌, ◌*◌, ◌^◌, ◌<◌, ◌≤◌, Bool, List, [], ◌∷◌, ◌++◌, map, length, refl, arith}
use Rattle.std.proofs.Math.Nat.{pow-le-pow_right, one-le-pow}
use Rattle.std.proofs.lemmas.Grind.{pow_more}
use Rattle.std.proofs.lemmas.List.Sums.{sum_by-cons}
use Rattle.strm_msg.specs.Message.{Msg}
use Rattle.strm_msg.specs.declared.words.End.{End}
use Rattle.strm_msg.specs.declared.words.Side.{Side}
use Rattle.strm_msg.specs.declared.words.Side.TheVariants.{Rd, Wr}
use Rattle.strm_module.specs.Kinds.{OutList}
use Rattle.strm_chain.specs.declared.chain.hop.Hop.{Hop}
use Rattle.strm_chain.specs.Hop.{rank, load, hop_of}

-- a third of the next power
third : (a c : ℕ) → a < c → 3 * 3 ^ a ≤ 3 ^ c
third a c h =
    let three : 0 < 3 = omega arith in
    let next : a + 1 ≤ c = omega arith in
    let p : 3 ^ (a + 1) ≤ 3 ^ c = pow-le-pow_right three next in
    let q : 3 ^ (a + 1) ≡ 3 ^ a * 3 = pow_more 3 a in
    omega (arith, p, q)

positive : (a : ℕ) → 1 ≤ 3 ^ a
positive a = one-le-pow a 3 (omega arith)

abbrev size : Hop → ℕ
size h = 3 ^ rank h

-- without one hop there is less to carry
pub none_falls : (h : Hop) (rest : List Hop) → load rest < load (h ∷ rest)
unfolding load
none_falls h rest = omega (arith, sum_by-cons size h rest, positive (rank h))

-- one that goes less far in its place
pub one_falls : (h x : Hop) (rest : List Hop) → rank x < rank h → load (x ∷ rest) < load (h ∷ rest)
unfolding load
one_falls h x rest less =
    omega (arith, sum_by-cons size h rest, sum_by-cons size x rest, third (rank x) (rank h) less, positive (rank x))

-- two that go less far in its place
pub two_fall : (h x y : Hop) (rest : List Hop) → rank x < rank h → rank y < rank h → load (x ∷ (y ∷ rest)) < load (h ∷ rest)
unfolding load
two_fall h x y rest lx ly =
    omega (arith, sum_by-cons size h rest, sum_by-cons size x (y ∷ rest), sum_by-cons size y rest, third (rank x) (rank h) lx, third (rank y) (rank h) ly, positive (rank x), positive (rank y))

-- an out of a module goes less far than what came to it
out_lower : (head_sent : Bool) (side : Side) (e : End) (i n : ℕ) (m : Msg) (out : Side × Msg) → 0 < n → (side ≡ Rd → i ≡ n) → (side ≡ Wr → i ≤ 8) → rank (hop_of head_sent side e i (n - 1) out) < rank (record { head_sent = head_sent; side = side; end = e; ahead = n; m = m })
out_lower head_sent Rd e i n m out h at few = let same : i ≡ n = at refl in rw same (omega arith)
out_lower head_sent Wr e i n m (Wr, o) h at few = omega arith
out_lower head_sent Wr e i n m (Rd, o) h at few = let most : i ≤ 8 = few refl in omega arith

pub outs_fall : (head_sent : Bool) (side : Side) (e : End) (i n : ℕ) (m : Msg) (outs : OutList) (rest : List Hop) → 0 < n → (side ≡ Rd → i ≡ n) → (side ≡ Wr → i ≤ 8) → length outs ≤ 2 → load (map (hop_of head_sent side e i (n - 1)) outs ++ rest) < load (record { head_sent = head_sent; side = side; end = e; ahead = n; m = m } ∷ rest)
outs_fall head_sent side e i n m [] rest h at few two =
    none_falls (record { head_sent = head_sent; side = side; end = e; ahead = n; m = m }) rest
outs_fall head_sent side e i n m (x ∷ []) rest h at few two =
    one_falls (record { head_sent = head_sent; side = side; end = e; ahead = n; m = m }) (hop_of head_sent side e i (n - 1) x) rest (out_lower head_sent side e i n m x h at few)
outs_fall head_sent side e i n m (x ∷ (y ∷ [])) rest h at few two =
    two_fall (record { head_sent = head_sent; side = side; end = e; ahead = n; m = m }) (hop_of head_sent side e i (n - 1) x) (hop_of head_sent side e i (n - 1) y) rest (out_lower head_sent side e i n m x h at few) (out_lower head_sent side e i n m y h at few)
outs_fall head_sent side e i n m (x ∷ (y ∷ (z ∷ more))) rest h at few two = absurd (omega arith)
