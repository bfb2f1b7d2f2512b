-- One rewrite after another: what the whole comes to is what is left comes to (`Running`), no node that ends by the last redex matches (`Searched`), and what
-- stands above it is known (`Above`).
use mathlib.Core.Path.{◌≡◌, refl, sym, ap, ◌∙◌}
use Prim.Native.Nat.{ℕ, ◌+◌, ◌*◌, ◌^◌, ◌≤◌, ◌<◌}
use native.Mathlib.Omega.{arith}
use mathlib.Core.Bool.{true, false}
use mathlib.Core.Option.{Option, some, some-injective}
use mathlib.Core.List.{List}
use lib.ListN.{length, get_or, take, set, replicate}
use lib.Seq.{length-take-le}
use Rattle.std.specs.Prelude
use Rattle.std.specs.Prelude.{Result, Ok, Err, Some, None}
use Rattle.documents.specs.declared.Refusal.{Refusal}
use Rattle.documents.specs.Terms.{Term}
use Rattle.documents.specs.Tables.{table_of, nodes}
use Rattle.documents.specs.Instructions.{Program}
use Rattle.documents.specs.Machine.{run}
use Rattle.documents.specs.Machine as machine
use Rattle.documents.specs.Numbers.{answered, subject_in}
use Rattle.documents.proofs.Numbers.{subject_in_held}
use Rattle.documents.proofs.Nodes.{nodes_positive}
use Rattle.documents.proofs.Tables.{length_table_of}
use Rattle.tables.proofs.Accepted.{table_begins}
use Rattle.rewriting.specs.Rewrites.{is_none, by_first_rule, once}
use Rattle.rewriting.specs.Replacing.{replace}
use Rattle.rewriting.specs.ListCall.{rewritten}
use Rattle.rewriting.proofs.FirstNode.{SilentBefore, first_node_lem}
use Rattle.rewriting.proofs.Searching.{Searched, search_starts, search_again}
use Rattle.rewriting.proofs.Splicing.{Within, result_within}
use Rattle.rewriting.proofs.Kept.{once_accepted}
use Rattle.rewriting.proofs.Sequence.{Running, running_starts, running_ends, running_stops, running_goes, running_breaks}
use Rattle.rule_table.specs.Places.{code_at}
use Rattle.rule_table.proofs.Placed.{placed_below, placed_inside, placed_passes, placed_holds, places_obey}
use Rattle.levels.specs.Levels.{Above}
use Rattle.levels.proofs.Above.{above_starts, above_depth, above_replaced}
use Rattle.rewriter.specs.declared.Redex.{Redex}
use Rattle.rewriter.specs.Replaces.{plan_in, ReplacedAs, Replaces}
use Rattle.search.specs.Searches.{Searching, Redexed, FoundAs, Finds}
use Rattle.list_run.specs.Answers.{Turning, Turns, Rewriting}

-- ---- A plan at the front of a table

-- its words are its table, two a node
plan_table : (plan : List ℕ) (words : ℕ) → subject_in (take words plan) ≡ answered (plan_in plan words) → take words plan ≡ table_of (plan_in plan words)
plan_table plan words a = sym (subject_in_held (take words plan) (plan_in plan words) a).0.table

plan_words : (plan : List ℕ) (words : ℕ) → words ≤ length plan → subject_in (take words plan) ≡ answered (plan_in plan words) → words ≡ 2 * nodes (plan_in plan words)
plan_words plan words l a = sym (length-take-le words plan l) ∙ (ap length (plan_table plan words a) ∙ length_table_of (plan_in plan words))

-- what stands at the front of a table is the plan that was put there
plan_put : (plan : List ℕ) (words : ℕ) (u : Term) → take words plan ≡ table_of u → subject_in (table_of u) ≡ answered u
    → (plan_in plan words ≡ u) × (subject_in (take words plan) ≡ answered (plan_in plan words))
plan_put plan words u e a =
    let f : plan_in plan words ≡ u = (table_begins u (take words plan) (sym e) (subject_in_held (table_of u) u a).0.fits).1 in
    (f, ap subject_in e ∙ (a ∙ ap answered (sym f)))

-- no node before one matches
before_it : (f : Term → Option Term) (t : Term) (m : ℕ) → SilentBefore f t m → Searched f t 0 m
before_it f t m h = record { passed = h; ended = λ k v e l. absurd (omega (arith, nodes_positive v)) }

-- answers that are known
found_is : (rules starts plan above entries : List ℕ) (cs : List Program) {r : Prelude.Option Redex} (x : Prelude.Option Redex) → r ≡ x → FoundAs rules starts plan above entries cs r → FoundAs rules starts plan above entries cs x
found_is rules starts plan above entries cs x e k = rw e at k

replaced_is : (plan : List ℕ) (node words most : ℕ) (old : Term) (plan' : List ℕ) (words' : ℕ) (c : Program) {r : Result (Unit {0}) Refusal} (x : Result (Unit {0}) Refusal) → r ≡ x
    → ReplacedAs plan node words most old plan' words' c r → ReplacedAs plan node words most old plan' words' c x
replaced_is plan node words most old plan' words' c x e k = rw e at k

-- ---- Between two rewrites

module _ (rules starts roots seconds first : List ℕ) (words number most : ℕ) (work₀ : List ℕ) where
  -- the plan of so many words, the node that was rewritten last and what stands above it
  pub record Goes (plan above : List ℕ) (left node level made : ℕ) (cs : List Program) : Type 0 where
    pub running : Running cs (plan_in first words) number (2 * most) (plan_in plan left) made
    pub accepted : subject_in (take left plan) ≡ answered (plan_in plan left)
    pub above_is : Above (take left plan) node above level
    pub searched : Searched (by_first_rule cs) (plan_in plan left) node 0

  pub record Turned (plan above entries work : List ℕ) (left node level made : ℕ) : Type 0 where
    pub table_stays : length plan ≡ length first
    pub work_stays : length work ≡ length work₀
    pub room : length entries ≡ 16
    pub inside : left ≤ 8192
    pub allowed : made ≤ number
    pub goes : (cs : List Program) → Turning rules starts roots seconds first words most work₀ cs → Goes plan above left node level made cs

module _ {rules starts roots seconds first : List ℕ} {words number most : ℕ} {work₀ : List ℕ} where
  module _ (p : (cs : List Program) × Turning rules starts roots seconds first words most work₀ cs) where
    pub turned_starts : {entries : List ℕ} → length entries ≡ 16 → Turned rules starts roots seconds first words number most work₀ first (set (replicate 65 0) 0 1) entries work₀ words 0 1 0
    turned_starts l = record {
      table_stays = refl;
      work_stays = refl;
      room = l;
      inside = p.1.inside;
      allowed = omega arith;
      goes = λ cs t. record {
        running = running_starts cs (plan_in first words) number (2 * most) t.keeps;
        accepted = t.accepted;
        above_is = above_starts (take words first) t.accepted;
        searched = search_starts (by_first_rule cs) (plan_in first words);
      };
    }

  module _ {plan above entries work : List ℕ} {left node level made : ℕ} (a : Turned rules starts roots seconds first words number most work₀ plan above entries work left node level made) where
    module _ {cs : List Program} (t : Turning rules starts roots seconds first words most work₀ cs) where
      table_long : length plan ≡ 8192
      table_long = a.table_stays ∙ t.table_long

      searching : Searching rules starts roots seconds (take left plan) node above level entries 0 cs
      searching = record {
        places = t.places;
        sorted = t.sorted;
        above_is = (a.goes cs t).above_is;
        searched = (a.goes cs t).searched;
        room = a.room;
      }

      -- the plan keeps the limits
      keeps : Within (2 * most) (plan_in plan left)
      keeps = (result_within (2 * most) (plan_in plan left) (table_of (plan_in plan left)) (a.goes cs t).running.keeps).0

      small : nodes (plan_in plan left) ≤ most
      small = let k = keeps.small in let f = t.few in omega arith

      left_is : left ≡ 2 * nodes (plan_in plan left)
      left_is = plan_words plan left (let l = table_long in let i = a.inside in omega arith) (a.goes cs t).accepted

      pub left_few : left ≤ 2 * most
      left_few = let k = small in let e = left_is in omega arith

    pub may_search : (p : (cs : List Program) × Turning rules starts roots seconds first words most work₀ cs)
        → (cs : List Program) × Searching rules starts roots seconds (take left plan) node above level entries 0 cs
    may_search (cs, t) = (cs, searching t)

    pub left_within : (p : (cs : List Program) × Turning rules starts roots seconds first words most work₀ cs) → (left ≤ length plan) × (left < 2 ^ 32)
    left_within (cs, t) = let l = table_long t in let i = a.inside in (omega arith, omega arith)

    module _ {above' entries' : List ℕ} {r : Prelude.Option Redex} (f : Finds rules starts roots seconds (take left plan) node above above' level entries entries' 0 r) where
      finds : {cs : List Program} → Turning rules starts roots seconds first words most work₀ cs → FoundAs rules starts (take left plan) above' entries' cs r
      finds {cs} t = f.says cs (searching t)

      -- no rule matches any more
      pub turned_ends : r ≡ None → Turns rules starts roots seconds first plan words left number most work₀ work (Ok (record { words = left; rewrites = made; normal = true }))
      turned_ends e = record {
        table_stays = a.table_stays;
        work_stays = a.work_stays;
        says = λ cs t.
            let n = found_is rules starts (take left plan) above' entries' cs None e (finds t) in (
              left_few t,
              refl,
              running_ends cs (plan_in first words) number (2 * most) (plan_in plan left) made (a.goes cs t).running n
                  ∙ ap (λ (ws : List ℕ). answered (rewritten ws made true)) (sym (plan_table plan left (a.goes cs t).accepted)),
            );
      }

      module _ {x : Redex} (e : r ≡ Some x) where
        redexed : {cs : List Program} → Turning rules starts roots seconds first words most work₀ cs → Redexed rules starts (take left plan) above' entries' cs x
        redexed {cs} t = found_is rules starts (take left plan) above' entries' cs (Some x) e (finds t)

        -- what the first rule that matches there makes of the redex, in its place
        next_is : {cs : List Program} (t : Turning rules starts roots seconds first words most work₀ cs)
            → once cs (plan_in plan left) ≡ some (replace (plan_in plan left) x.node (redexed t).matches.new)
        unfolding once
        next_is {cs} t =
            let y = redexed t in
            first_node_lem (by_first_rule cs) (plan_in plan left) x.node y.old y.matches.new y.here (ap (by_first_rule cs) (sym y.is_front) ∙ y.matches.first) y.earlier

        -- the number is used up
        pub turned_stops : made ≡ number → Turns rules starts roots seconds first plan words left number most work₀ work (Ok (record { words = left; rewrites = made; normal = false }))
        turned_stops z = record {
          table_stays = a.table_stays;
          work_stays = a.work_stays;
          says = λ cs t. (
            left_few t,
            refl,
            running_stops cs (plan_in first words) number (2 * most) (plan_in plan left) made (a.goes cs t).running z
                ∙ (ap (λ (o : Option Term). answered (rewritten (table_of (plan_in plan left)) made (is_none o))) (next_is t)
                ∙ ap (λ (ws : List ℕ). answered (rewritten ws made false)) (sym (plan_table plan left (a.goes cs t).accepted))),
          );
        }

        -- the redex with its rule's code
        pub may_rewrite : (p : (cs : List Program) × Turning rules starts roots seconds first words most work₀ cs) → Rewriting rules starts x entries' plan left most work
        may_rewrite (cs, t) =
            let y = redexed t in
            let m = y.matches in
            record {
              rule = placed_below rules starts cs t.places x.rule m.program m.listed;
              inside = placed_inside rules starts cs t.places x.rule m.program m.listed;
              few = let l = f.long in let k = m.ready.few in omega arith;
              replacing = record {
                table_long = table_long t;
                work_long = let l = t.work_long in let s = a.work_stays in omega arith;
                inside = a.inside;
                accepted = (a.goes cs t).accepted;
                small = small t;
                few = t.few;
                passed = placed_passes rules starts cs t.places x.rule m.program m.listed;
                old = y.old;
                here = y.here;
                words_are = m.words_are ∙ ap (λ (u : Term). 2 * nodes u) y.is_front;
                level_is = above_depth y.above_is;
                table = entries';
                enough = f.long;
                these = refl;
                ready = λ c g.
                    let q : m.program ≡ c = some-injective m.program c (sym (placed_holds rules starts cs t.places x.rule m.program m.listed) ∙ g) in
                    rw q at m.ready;
              };
            }

        module _ {plan' work' : List ℕ} {next : ℕ} {s : Result (Unit {0}) Refusal}
            (d : Replaces (code_at rules (get_or starts x.rule 0)) x (take x.entries entries') plan plan' left next most work work' s) where
          replaced_as : {cs : List Program} (t : Turning rules starts roots seconds first words most work₀ cs)
              → ReplacedAs plan x.node left most (redexed t).old plan' next (redexed t).matches.program s
          replaced_as {cs} t =
              let y = redexed t in
              let m = y.matches in
              d.says y.old y.here m.program (placed_holds rules starts cs t.places x.rule m.program m.listed)

          -- what was made is what the first rule makes
          new_same : {cs : List Program} (t : Turning rules starts roots seconds first words most work₀ cs) (w : Term)
              → machine.made (run (redexed t).matches.program (redexed t).old) ≡ some w → (redexed t).matches.new ≡ w
          new_same t w e =
              let y = redexed t in
              some-injective y.matches.new w (sym y.matches.makes ∙ (ap (λ (u : Term). machine.made (run y.matches.program u)) y.is_front ∙ e))

          -- so that is the next plan
          next_plan : {cs : List Program} (t : Turning rules starts roots seconds first words most work₀ cs) (w : Term)
              → machine.made (run (redexed t).matches.program (redexed t).old) ≡ some w → once cs (plan_in plan left) ≡ some (replace (plan_in plan left) x.node w)
          next_plan t w e = next_is t ∙ ap (λ (u : Term). some (replace (plan_in plan left) x.node u)) (new_same t w e)

          pub turned_breaks : {w : Refusal} → s ≡ Err w → made < number → Turns rules starts roots seconds first plan' words next number most work₀ work' (Err w)
          turned_breaks {w} q l = record {
            table_stays = d.table_stays ∙ a.table_stays;
            work_stays = d.work_stays ∙ a.work_stays;
            says = λ cs t.
                let k = replaced_is plan x.node left most (redexed t).old plan' next (redexed t).matches.program (Err w) q (replaced_as t) in
                running_breaks cs (plan_in first words) number (2 * most) (plan_in plan left) made (a.goes cs t).running (replace (plan_in plan left) x.node k.0)
                (next_plan t k.0 k.1) l w k.2;
          }

          module _ {done : Unit {0}} (q : s ≡ Ok done) where
            as_words : {cs : List Program} (t : Turning rules starts roots seconds first words most work₀ cs)
                → ReplacedAs plan x.node left most (redexed t).old plan' next (redexed t).matches.program (Ok done)
            as_words t = replaced_is plan x.node left most (redexed t).old plan' next (redexed t).matches.program (Ok done) q (replaced_as t)

            goes_on : {cs : List Program} → Turning rules starts roots seconds first words most work₀ cs → made < number → Goes rules starts roots seconds first words number most work₀ plan' above' next x.node x.level (made + 1) cs
            goes_on {cs} t l =
                let k = as_words t in
                let y = redexed t in
                let u = replace (plan_in plan left) x.node k.0 in
                let o : once cs (plan_in plan left) ≡ some u = next_plan t k.0 k.1 in
                let b : subject_in (table_of (plan_in plan left)) ≡ answered (plan_in plan left) = ap subject_in (sym (plan_table plan left (a.goes cs t).accepted)) ∙ (a.goes cs t).accepted in
                let z = plan_put plan' next u k.3 (once_accepted cs (2 * most) (plan_in plan left) u (table_of u) (places_obey rules starts cs t.places) b o k.2) in
                record {
                  running = rw z.0 (running_goes cs (plan_in first words) number (2 * most) (plan_in plan left) made (a.goes cs t).running u o l k.2);
                  accepted = z.1;
                  above_is = above_replaced y.above_is (take next plan') k.0 z.1 z.0;
                  searched = rw z.0 (search_again (by_first_rule cs) (plan_in plan left) 0 x.node (before_it (by_first_rule cs) (plan_in plan left) x.node y.earlier) y.old y.here k.0);
                }

            pub turned_on : (p : (cs : List Program) × Turning rules starts roots seconds first words most work₀ cs) → made < number → Turned rules starts roots seconds first words number most work₀ plan' above' entries' work' next x.node x.level (made + 1)
            turned_on (cs, t) l = record {
              table_stays = d.table_stays ∙ a.table_stays;
              work_stays = d.work_stays ∙ a.work_stays;
              room = f.long;
              inside = let k = (as_words t).4 in let m = t.few in omega arith;
              allowed = omega arith;
              goes = λ cs t. goes_on t l;
            }
