-- The search over a plan: node by node from the one that was rewritten last, and before that the nodes above it. What is known of the nodes passed is
-- `Searched`; where no rule of a node's candidates matches, none of the list does.
use mathlib.Core.Path.{◌≡◌, refl}
use Prim.Native.Nat.{ℕ, ◌+◌, ◌-◌, ◌*◌, ◌/◌, ◌≤◌, ◌<◌}
use native.Mathlib.Omega.{arith}
use mathlib.Core.Option.{none, some}
use mathlib.Core.List.{List}
use lib.ListN.{length, get_or, drop, set, replicate}
use Rattle.std.specs.Prelude
use Rattle.std.specs.Prelude.{Result, Ok, Err, Some, None}
use Rattle.documents.specs.Terms.{Term}
use Rattle.documents.specs.Tables.{nodes, subterm}
use Rattle.documents.specs.Instructions.{Program}
use Rattle.documents.specs.Numbers.{answered, subject_in}
use Rattle.documents.proofs.Nodes.{subterm_inside}
use Rattle.tables.specs.Parts.{front}
use Rattle.tables.proofs.Parts.{from_drop}
use Rattle.tables.proofs.Parts as parts
use Rattle.rewriting.specs.Rewrites.{by_first_rule}
use Rattle.rewriting.proofs.Contexts.{subterm_at}
use Rattle.rewriting.proofs.Searching.{Searched, search_looked, once_ends}
use Rattle.matcher.specs.Ready.{Begins}
use Rattle.matcher.proofs.Parts.{whole_length, begins_at}
use Rattle.rule_table.specs.Places.{Places}
use Rattle.dispatch.specs.Sorted.{Sorted, Candidates}
use Rattle.levels.specs.Levels.{Above}
use Rattle.levels.proofs.Above.{above_node, above_back, Looked, looked_starts, looked_here, looked_further, looked_all}
use Rattle.rewriter.specs.declared.Redex.{Redex}
use Rattle.search.specs.declared.Tried.{Tried}
use Rattle.search.specs.Searches.{redex_of, Trying, TriedAs, Tries, Searching, Redexed, Finds, FoundAbove, FindsAbove}
use Rattle.search.proofs.Attempting.{none_tried}

-- ---- A node of a plan, and the part that begins there

pub record Here (plan : List ℕ) (node : ℕ) : Type 0 where
  pub old : Term
  pub there : subterm (front plan) node ≡ some old
  pub begins : Begins (drop (2 * node) plan)
  pub is_front : front (drop (2 * node) plan) ≡ old
  pub room : 2 * node + 2 ≤ length plan

here_of : {plan : List ℕ} → subject_in plan ≡ answered (front plan) → (node : ℕ) (u : Term) → subterm (front plan) node ≡ some u → Here plan node
here_of {plan} a node u e =
    let b = begins_at plan (front plan) node u a e in
    record { old = u; there = e; begins = b.0; is_front = b.1; room = let i = subterm_inside (front plan) node u e in let w = whole_length plan a in omega arith }

pub node_here : {plan : List ℕ} → subject_in plan ≡ answered (front plan) → (node : ℕ) → node < nodes (front plan) → Here plan node
node_here {plan} a node h = let s = subterm_at (front plan) node h in here_of a node s.0 s.1

-- ---- What a node's candidates do

module _ {rules starts roots seconds plan : List ℕ} {node set : ℕ} (h : Here plan node)
    (k : (cs : List Program) → Sorted cs roots seconds → Candidates cs (front (drop (2 * node) plan)) set) {now : List ℕ} (l : length now ≡ 16) where
  pub trying : {cs : List Program} → Places rules starts cs → Sorted cs roots seconds → Trying rules starts set (drop (2 * node) plan) now cs
  trying {cs} p s = record { places = p; candidates = k cs s; begins = h.begins; room = l }

  -- handed on as that part of the plan
  pub trying_part : {cs : List Program} → Places rules starts cs → Sorted cs roots seconds → Trying rules starts set (parts.from (2 * node) plan) now cs
  trying_part p s = rw (from_drop (2 * node) plan) (trying p s)

  module _ {then : List ℕ} {r : Prelude.Option Tried} (t : Tries rules starts set (parts.from (2 * node) plan) now then r) {cs : List Program} (p : Places rules starts cs) (s : Sorted cs roots seconds) where
    tried_as : TriedAs rules starts (drop (2 * node) plan) then cs r
    tried_as = let x : Tries rules starts set (drop (2 * node) plan) now then r = rw (from_drop (2 * node) plan) at t in x.says cs (trying p s)

    no_match_lem : r ≡ None → by_first_rule cs h.old ≡ none
    no_match_lem e = let x : TriedAs rules starts (drop (2 * node) plan) then cs None = rw e at tried_as in rw h.is_front at x

    redexed : {above : List ℕ} {tried : Tried} {level : ℕ} → r ≡ Some tried → {mark : ℕ} → Searched (by_first_rule cs) (front plan) mark node → Above plan node above level
        → Redexed rules starts plan above then cs (redex_of node level tried)
    redexed {tried = tried} e q a =
        let x : TriedAs rules starts (drop (2 * node) plan) then cs (Some tried) = rw e at tried_as in
        record { old = h.old; here = h.there; is_front = h.is_front; earlier = q.passed; matches = x; above_is = a }

-- no candidate, no match
no_candidate : {rules starts roots seconds plan : List ℕ} {node set : ℕ} (h : Here plan node) → ((cs : List Program) → Sorted cs roots seconds → Candidates cs (front (drop (2 * node) plan)) set)
    → set ≡ 0 → {cs : List Program} → Places rules starts cs → Sorted cs roots seconds → by_first_rule cs h.old ≡ none
no_candidate {rules} {starts} {plan = plan} {node = node} h k z {cs} p s =
    let t : Trying rules starts 0 (drop (2 * node) plan) (replicate 16 0) cs = rw z at (trying h k {now = replicate 16 0} refl p s) in
    rw h.is_front at (none_tried t)

-- ---- From a node on

pub record LookingFrom (rules starts roots seconds plan : List ℕ) (from : ℕ) (above : List ℕ) (level : ℕ) (entries now : List ℕ) (node : ℕ) : Type 0 where
  pub room : length now ≡ 16
  pub further : from ≤ node
  pub within : node ≤ nodes (front plan)
  pub words : 2 * nodes (front plan) ≡ length plan
  pub searched : (cs : List Program) → Searching rules starts roots seconds plan from above level entries from cs → Searched (by_first_rule cs) (front plan) from node

module _ {rules starts roots seconds plan : List ℕ} {from : ℕ} {above : List ℕ} {level : ℕ} {entries : List ℕ} where
  module _ {looked : ℕ} (p : (cs : List Program) × Searching rules starts roots seconds plan from above level entries looked cs) where
    pub plan_accepted : subject_in plan ≡ answered (front plan)
    plan_accepted = p.1.above_is.accepted

  pub looking_starts : (p : (cs : List Program) × Searching rules starts roots seconds plan from above level entries from cs) → LookingFrom rules starts roots seconds plan from above level entries entries from
  looking_starts p = record {
    room = p.1.room;
    further = omega arith;
    within = let i = p.1.above_is.inside in omega arith;
    words = whole_length plan (plan_accepted p);
    searched = λ cs s. s.searched;
  }

  module _ {now : List ℕ} {node : ℕ} (a : LookingFrom rules starts roots seconds plan from above level entries now node) (p : subject_in plan ≡ answered (front plan)) (q : 2 * node < length plan) where
    pub looking_here : Here plan node
    looking_here = node_here p node (let w = a.words in omega arith)

  module _ {now : List ℕ} {node : ℕ} (a : LookingFrom rules starts roots seconds plan from above level entries now node) (h : Here plan node) where
    one_more : {then : List ℕ} → length then ≡ 16 → 2 * node < length plan
        → ((cs : List Program) → Searching rules starts roots seconds plan from above level entries from cs → by_first_rule cs h.old ≡ none)
        → LookingFrom rules starts roots seconds plan from above level entries then (node + 1)
    one_more l q f = record {
      room = l;
      further = let k = a.further in omega arith;
      within = let w = a.words in omega arith;
      words = a.words;
      searched = λ cs s. search_looked (by_first_rule cs) (front plan) from node (a.searched cs s) h.old h.there (f cs s);
    }

    module _ {set : ℕ} (k : (cs : List Program) → Sorted cs roots seconds → Candidates cs (front (drop (2 * node) plan)) set) where
      pub looking_on : 2 * node < length plan → set ≡ 0 → LookingFrom rules starts roots seconds plan from above level entries now (node + 1)
      looking_on q z = one_more a.room q (λ cs s. no_candidate h k z s.places s.sorted)

      module _ {then : List ℕ} {r : Prelude.Option Tried} (t : Tries rules starts set (parts.from (2 * node) plan) now then r) where
        pub looking_missed : 2 * node < length plan → r ≡ None → LookingFrom rules starts roots seconds plan from above level entries then (node + 1)
        looking_missed q e = one_more t.long q (λ cs s. no_match_lem h k a.room t s.places s.sorted e)

        pub looking_found : {tried : Tried} {there : ℕ} {above' : List ℕ} → r ≡ Some tried → Above plan node above' there
            → Finds rules starts roots seconds plan from above above' level entries then from (Some (redex_of node there tried))
        looking_found e b = record { long = t.long; says = λ cs s. redexed h k a.room t s.places s.sorted e (a.searched cs s) b }

  pub looking_ends : {now : List ℕ} {node : ℕ} → LookingFrom rules starts roots seconds plan from above level entries now node → length plan ≤ 2 * node
      → Finds rules starts roots seconds plan from above above level entries now from None
  looking_ends {node = node} a q = record {
    long = a.room;
    says = λ cs s. once_ends cs (front plan) from node (a.searched cs s) (let w = a.words in omega arith);
  }

-- ---- The nodes above

-- the same array, the same node
pub node_same : (above now : List ℕ) (i : ℕ) {node : ℕ} → now ≡ above → node ≡ get_or now i 0 / 16 → node ≡ get_or above i 0 / 16
node_same above now i e n = rw e at n

pub record LookingAbove (rules starts roots seconds plan : List ℕ) (from : ℕ) (above : List ℕ) (level : ℕ) (entries now : List ℕ) (i : ℕ) : Type 0 where
  pub room : length now ≡ 16
  pub first : 1 ≤ i
  pub looked : (cs : List Program) → Searching rules starts roots seconds plan from above level entries 0 cs → Looked (by_first_rule cs) plan from above level i

module _ {rules starts roots seconds plan : List ℕ} {from : ℕ} {above : List ℕ} {level : ℕ} {entries : List ℕ} where
  pub above_from : (p : (cs : List Program) × Searching rules starts roots seconds plan from above level entries 0 cs) → LookingAbove rules starts roots seconds plan from above level entries entries 1
  above_from p = record { room = p.1.room; first = omega arith; looked = λ cs s. looked_starts s.above_is s.searched }

  module _ {now : List ℕ} {i : ℕ} (a : LookingAbove rules starts roots seconds plan from above level entries now i) (q : i < level) where
    pub above_here : {node : ℕ} → node ≡ get_or above i 0 / 16 → Above plan from above level → Here plan node
    above_here n b = let k = above_node b i a.first q in here_of b.accepted _ k.1.0 (rw n k.1.1)

    module _ {node : ℕ} (n : node ≡ get_or above i 0 / 16) (h : Here plan node) {few : ℕ} (k : (cs : List Program) → Sorted cs roots seconds → Candidates cs (front (drop (2 * node) plan)) few)
        {then : List ℕ} {r : Prelude.Option Tried} (t : Tries rules starts few (parts.from (2 * node) plan) now then r) where
      pub above_missed : r ≡ None → LookingAbove rules starts roots seconds plan from above level entries then (i + 1)
      above_missed e = record {
        room = t.long;
        first = omega arith;
        looked = λ cs s. looked_further (a.looked cs s) h.old (rw n at h.there) (no_match_lem h k a.room t s.places s.sorted e);
      }

      pub above_found : {tried : Tried} → r ≡ Some tried
          → FindsAbove rules starts roots seconds plan from above (set above (i - 1) (get_or above (i - 1) 0 + 1)) level entries then
          (Some (redex_of node i tried))
      above_found e = record {
        long = t.long;
        says = λ cs s. redexed h k a.room t s.places s.sorted e {mark = from} (rw n (looked_here (a.looked cs s) q)) (rw n (above_back s.above_is i a.first q).1);
      }

  pub above_ends : {now : List ℕ} {i : ℕ} → LookingAbove rules starts roots seconds plan from above level entries now i → level ≤ i
      → FindsAbove rules starts roots seconds plan from above above level entries now None
  above_ends a q = record { long = a.room; says = λ cs s. (refl, looked_all (a.looked cs s) q) }

  -- ---- Both

  module _ {above' entries' : List ℕ} where
    pub found_above : {r : Prelude.Option Redex} {x : Redex} → FindsAbove rules starts roots seconds plan from above above' level entries entries' r → r ≡ Some x
        → Finds rules starts roots seconds plan from above above' level entries entries' 0 r
    found_above {r} {x} f e = rw e (record { long = f.long; says = λ cs s. let y : FoundAbove rules starts plan from above above' entries' cs (Some x) = rw e at (f.says cs s) in y })

    module _ {r : Prelude.Option Redex} (f : FindsAbove rules starts roots seconds plan from above above' level entries entries' r) (e : r ≡ None) where
      nowhere_above : {cs : List Program} → Searching rules starts roots seconds plan from above level entries 0 cs → Searching rules starts roots seconds plan from above' level entries' from cs
      nowhere_above {cs} s =
          let y : FoundAbove rules starts plan from above above' entries' cs None = rw e at (f.says cs s) in
          record { places = s.places; sorted = s.sorted; above_is = rw y.0 s.above_is; searched = y.1; room = f.long }

      pub then_from : (p : (cs : List Program) × Searching rules starts roots seconds plan from above level entries 0 cs) → (cs : List Program) × Searching rules starts roots seconds plan from above' level entries' from cs
      then_from (cs, s) = (cs, nowhere_above s)

      pub found_from : {above'' entries'' : List ℕ} {x : Prelude.Option Redex} → Finds rules starts roots seconds plan from above' above'' level entries' entries'' from x
          → Finds rules starts roots seconds plan from above above'' level entries entries'' 0 x
      found_from g = record { long = g.long; says = λ cs s. g.says cs (nowhere_above s) }
