-- The streams of a plan by their names, whichever keys the map has; and names among processes.
use Rattle.std.proofs.Common.{◌≡◌, ◌≤◌, ℕ, zero, suc, ◌+◌, ◌==◌, Bool, true, false, cond, not, ◌||◌, is_some, List, [], ◌∷◌, ◌++◌, length, map, get_or, slice_get, slice_set, position, nat_lt, Option, Some, None, refl, sym, ap, ◌∙◌, arith}
use Rattle.std.specs.Map.{keys_of, lookup}
use Rattle.std.specs.Option.{option_map, option_and_then}
use Rattle.std.specs.List.{position_or_len, list_any}
use Rattle.std.specs.Str.{bytes_eq}
use Rattle.indexmap.specs.IndexMap.{insert_entry}
use Rattle.std.proofs.lemmas.Option.{slice_get-map}
use Rattle.std.proofs.lemmas.Bool.{or_parts}
use Rattle.strm_module.specs.declared.driver.Driver.{Driver}
use Rattle.strm_module.specs.declared.shape.Shape.{Shape}
use Rattle.strm_head_calls.specs.declared.setup.Setup.{Setup}
use Rattle.strm_script_parse.specs.Plan.{Linked, Streams, process_view, feed_view, link_view}
use Rattle.strm_script_parse.specs.Reading.{any_carries, carried_by, carries_from, has_feed, has_link, has_process, leads_to, link_names}
use Rattle.strm_script_parse.specs.Targets.{has_stream, stream_names, stream_of}
use Rattle.strm_script_parse.specs.declared.plan.ProcessDecl.{ProcessDecl}
use Rattle.strm_script_parse.specs.declared.plan.LinkDecl.{LinkDecl}
use Rattle.strm_run_input.specs.declared.script.Feed.{Feed}

abbrev at : ℕ → Driver → ℕ × Driver
at number driver = (number, driver)

abbrev named : List ℕ → Setup → List ℕ × Setup
named name setup = (name, setup)

module _ {K : Type 0} (name_of : K → List ℕ) (wanted : List ℕ) where
  -- entries, as they are seen
  abbrev seen : List (K × Setup) → Streams
  seen entries = map (λ entry. (name_of entry.0, entry.1)) entries

  first_place : (entries : List (K × Setup)) → position_or_len (λ k. bytes_eq wanted (name_of k)) (keys_of entries) ≡ position_or_len (bytes_eq wanted) (stream_names (seen entries))
  first_place [] = refl
  first_place (entry ∷ entries) = ap (λ (n : ℕ). cond (not (bytes_eq wanted (name_of entry.0))) (1 + n) 0) (first_place entries)

  as_many : (entries : List (K × Setup)) → length (keys_of entries) ≡ length (stream_names (seen entries))
  as_many [] = refl
  as_many (entry ∷ entries) = ap suc (as_many entries)

  -- where a search among the keys finds a name
  pub place_of : (entries : List (K × Setup)) → position (λ k. bytes_eq wanted (name_of k)) (keys_of entries) ≡ position (bytes_eq wanted) (stream_names (seen entries))
  place_of entries = λ i. cond (nat_lt (first_place entries i) (as_many entries i)) (Some (first_place entries i)) None

  abbrev of_place : List (K × Setup) → ℕ → Option (ℕ × Driver)
  of_place entries number = option_and_then (λ (entry : List ℕ × Setup). Some (at number entry.1.driver)) (slice_get (seen entries) number)

  pub stream_none : (entries : List (K × Setup)) → None ≡ position (λ k. bytes_eq wanted (name_of k)) (keys_of entries) → None ≡ stream_of (seen entries) wanted
  stream_none entries is = ap (option_and_then (of_place entries)) (is ∙ place_of entries)

  pub stream_some : (entries : List (K × Setup)) (number : ℕ) (k : K) (setup : Setup) → Some number ≡ position (λ k. bytes_eq wanted (name_of k)) (keys_of entries) → slice_get entries number ≡ Some (k, setup) → Some (number, setup.driver) ≡ stream_of (seen entries) wanted
  stream_some entries number k setup is there =
      let got : slice_get (seen entries) number ≡ Some (named (name_of k) setup) = slice_get-map (λ (entry : K × Setup). named (name_of entry.0) entry.1) entries number ∙ ap (option_map (λ (entry : K × Setup). named (name_of entry.0) entry.1)) there in
      ap (option_and_then (λ (entry : List ℕ × Setup). Some (at number entry.1.driver))) (sym got) ∙ ap (option_and_then (of_place entries)) (is ∙ place_of entries)

  found_or : (b x : Bool) (setup : Setup) (rest : Option Setup) → is_some rest ≡ x → is_some (cond b (Some setup) rest) ≡ (b || x)
  found_or true x setup rest is = refl
  found_or false x setup rest is = is

  -- whether a name is there
  pub has_name : (entries : List (K × Setup)) → is_some (lookup (λ k. bytes_eq wanted (name_of k)) entries) ≡ has_stream (seen entries) wanted
  has_name [] = refl
  has_name (entry ∷ entries) = found_or (bytes_eq wanted (name_of entry.0)) _ entry.1 _ (has_name entries)

-- a new name goes last
pub inserted : {K : Type 0} (name_of : K → List ℕ) (entries : List (K × Setup)) (k : K) (setup : Setup) → has_stream (seen name_of (name_of k) entries) (name_of k) ≡ false → seen name_of (name_of k) (insert_entry (λ a b. bytes_eq (name_of a) (name_of b)) entries k setup) ≡ seen name_of (name_of k) entries ++ named (name_of k) setup ∷ []
inserted name_of [] k setup is = refl
inserted name_of (x ∷ entries) k setup is =
    let both = or_parts (bytes_eq (name_of k) (name_of x.0)) (list_any (bytes_eq (name_of k)) (stream_names (seen name_of (name_of k) entries))) is in
    ap (λ (b : Bool). seen name_of (name_of k) (cond b ((x.0, setup) ∷ entries) (x ∷ insert_entry (λ a b. bytes_eq (name_of a) (name_of b)) entries k setup))) both.0
    ∙ ap (λ (rest : Streams). named (name_of x.0) x.1 ∷ rest) (inserted name_of entries k setup both.1)

-- a process of some name
pub any_name : {K : Type 0} (wanted : List ℕ) (processes : List (ProcessDecl (Shape K))) → list_any (λ (process : ProcessDecl (Shape K)). bytes_eq wanted process.name.items) processes ≡ has_process (map process_view processes) wanted
any_name wanted [] = refl
any_name wanted (process ∷ processes) = ap (λ (b : Bool). bytes_eq wanted process.name.items || b) (any_name wanted processes)

-- a feed for some stream
pub any_feed : (number : ℕ) (feeds : List Feed) → list_any (λ (feed : Feed). feed.stream == number) feeds ≡ has_feed (map feed_view feeds) number
any_feed number [] = refl
any_feed number (feed ∷ feeds) = ap (λ (b : Bool). (feed.stream == number) || b) (any_feed number feeds)

-- ---- links

-- a link of some name
pub any_link : (wanted : List ℕ) (links : List LinkDecl) → list_any (λ (link : LinkDecl). bytes_eq wanted link.name.items) links ≡ has_link (map link_view links) wanted
any_link wanted [] = refl
any_link wanted (link ∷ links) = ap (λ (b : Bool). bytes_eq wanted link.name.items || b) (any_link wanted links)

-- a link to some stream
pub any_to : (number : ℕ) (links : List LinkDecl) → list_any (λ (link : LinkDecl). link.to == number) links ≡ leads_to (map link_view links) number
any_to number [] = refl
any_to number (link ∷ links) = ap (λ (b : Bool). (link.to == number) || b) (any_to number links)

-- a link on which a process carries from some wire
pub any_by : (process wire : ℕ) (links : List LinkDecl) → list_any (λ (link : LinkDecl). carries_from process wire (link_view link)) links ≡ any_carries (map link_view links) process wire
any_by process wire [] = refl
any_by process wire (link ∷ links) = ap (λ (b : Bool). carries_from process wire (link_view link) || b) (any_by process wire links)

-- where the link of a name is
module _ (wanted : List ℕ) where
  abbrev pub has_name_of : LinkDecl → Bool
  has_name_of link = bytes_eq wanted link.name.items

  first_link : (links : List LinkDecl) → position_or_len has_name_of links ≡ position_or_len (bytes_eq wanted) (link_names (map link_view links))
  first_link [] = refl
  first_link (link ∷ links) = ap (λ (n : ℕ). cond (not (bytes_eq wanted link.name.items)) (1 + n) 0) (first_link links)

  as_many_links : (links : List LinkDecl) → length links ≡ length (link_names (map link_view links))
  as_many_links [] = refl
  as_many_links (link ∷ links) = ap suc (as_many_links links)

  pub link_place : (links : List LinkDecl) → position has_name_of links ≡ position (bytes_eq wanted) (link_names (map link_view links))
  link_place links = λ i. cond (nat_lt (first_link links i) (as_many_links links i)) (Some (first_link links i)) None

-- the link of a number gets a carrier; there is none past the last
pub carrier_set : (process : ℕ) (links : List LinkDecl) (i : ℕ) (d : LinkDecl) → map link_view (slice_set links i (record (get_or links i d) { by = Some process })) ≡ carried_by process (map link_view links) i
carrier_set process [] i d = refl
carrier_set process (link ∷ links) zero d = refl
carrier_set process (link ∷ links) (suc i) d = ap (λ (l : List Linked). link_view link ∷ l) (carrier_set process links i d)

pub carrier_past : (process : ℕ) (links : List LinkDecl) (i : ℕ) → length links ≤ i → map link_view links ≡ carried_by process (map link_view links) i
carrier_past process [] i past = refl
carrier_past process (link ∷ links) zero past = absurd (omega (arith, past))
carrier_past process (link ∷ links) (suc i) past = ap (λ (l : List Linked). link_view link ∷ l) (carrier_past process links i (omega (arith, past)))
