-- The redex as a subject of its own. Its words are the table of the old subterm, which is an accepted subject as the plan is one, and the match part that
-- has come to the build part over the plan has come to it over these words.
use mathlib.Core.Path.{◌≡◌, refl, sym, ap, ◌∙◌}
use Prim.Native.Nat.{ℕ, ◌+◌, ◌-◌, ◌*◌, ◌≤◌}
use native.Mathlib.Omega.{arith}
use mathlib.Core.Option.{some}
use mathlib.Core.List.{List, ◌++◌}
use lib.Dec.{leb}
use lib.ListN.{length, take, drop, length-drop}
use lib.Seq.{length-take-le, take_at, drop_at}
use borrow.Author.Tests.{le-leb, leb-true}
use Rattle.documents.specs.Limits.{plan_limit}
use Rattle.documents.specs.Terms.{Sort, Tm, Term}
use Rattle.documents.specs.Tables.{nodes, depth, subterm}
use Rattle.documents.specs.Instructions.{Program, program_in}
use Rattle.documents.specs.Numbers.{answered, subject_in}
use Rattle.documents.proofs.Nodes.{depth_positive}
use Rattle.documents.proofs.Numbers.{Held, subject_in_held}
use Rattle.tables.specs.Parts.{front}
use Rattle.survey.specs.Places.{places_of}
use Rattle.rewriting.specs.Replacing.{replace, depth_at}
use Rattle.rewriting.proofs.Contexts.{by-context, replace_plug, depth_at_plug, subterm_ends}
use Rattle.rewriting.proofs.Splicing.{replaced_depth}
use Rattle.matcher.specs.Ready.{Begins, Ready}
use Rattle.matcher.proofs.Parts.{whole_length, begins_at, begins_cut, ready_cut}
use Rattle.std.specs.Prelude.{Result}
use Rattle.documents.specs.declared.Refusal.{Refusal}
use Rattle.builder.specs.declared.Weighed.{Weighed}
use Rattle.builder.specs.Weighing.{Building, Weighs}
use Rattle.rewriter.specs.declared.Redex.{Redex}
use Rattle.rewriter.specs.Replaces.{plan_in, redex_in, Replacing, room_for, WeighsRedex}
use Rattle.rewriter.proofs.Copied.{drop_take, part_part}

-- ---- The level of a node

-- a subterm put back where it was
same_plan : {s : Sort} (t : Tm s) (n : ℕ) (u : Term) → subterm t n ≡ some u → replace t n u ≡ t
same_plan = by-context (λ t n u. replace t n u ≡ t) (λ k u. replace_plug k u u)

level_within : (t : Term) (n : ℕ) (u : Term) (limit : ℕ) → subterm t n ≡ some u → depth t ≤ limit → (1 ≤ depth_at t n) × (depth_at t n ≤ limit)
level_within t n u limit e h =
    let q = sym (replaced_depth t n u u limit e h) ∙ ap (λ (v : Term). leb (depth v) limit) (same_plan t n u e) ∙ le-leb (depth t) limit h in
    let d = leb-true (depth_at t n + depth u) (limit + 1) q in
    (by-context (λ t n u. 1 ≤ depth_at t n) (λ k u. rw (depth_at_plug k u) (omega arith)) t n u e, omega (arith, depth_positive u))

module _ {code : List ℕ} {redex : Redex} {entries plan : List ℕ} {words most : ℕ} {work : List ℕ} (p : Replacing code redex entries plan words most work) where
  -- ---- The redex in its plan

  pub held : Held plan_limit (take words plan) (plan_in plan words)
  held = (subject_in_held (take words plan) (plan_in plan words) p.accepted).0

  pub plan_words : words ≡ 2 * nodes (plan_in plan words)
  plan_words = sym (whole_length (take words plan) p.accepted ∙ length-take-le words plan (omega (arith, p.inside, p.table_long)))

  pub node_ends : redex.node + nodes p.old ≤ nodes (plan_in plan words)
  node_ends = subterm_ends (plan_in plan words) redex.node p.old p.here

  -- where the redex ends in the plan, and the plan in its table
  pub ends_within : (2 * redex.node + redex.words ≤ words) × (words ≤ 2 * most) × (words ≤ 8192)
  ends_within =
      let a = plan_words in
      let b = node_ends in
      let c = p.words_are in
      let d = p.small in
      (omega arith, omega arith, p.inside)

  pub level_fits : (1 ≤ redex.level) × (redex.level ≤ 64)
  level_fits = rw p.level_is (level_within (plan_in plan words) redex.node p.old 64 p.here held.shallow)

  -- ---- The redex cut to its own words

  -- all of the plan from the redex on
  abbrev behind : List ℕ
  behind = drop (2 * redex.node) (take words plan)

  begins : Begins behind × (front behind ≡ p.old)
  begins = begins_at (take words plan) (plan_in plan words) redex.node p.old p.accepted p.here

  cut_is : take (2 * nodes (front behind)) behind ≡ redex_in plan redex
  cut_is =
      let h = ends_within in
      let z : 0 + 2 * redex.node ≡ 2 * redex.node = omega arith in
      ap (λ (u : Term). take (2 * nodes u) behind) begins.1
      ∙ ap (λ (k : ℕ). take k behind) (sym p.words_are)
      ∙ rw z at (part_part 0 (2 * redex.node) words redex.words plan (omega arith))

  redex_accepted : subject_in (redex_in plan redex) ≡ answered (front (redex_in plan redex))
  redex_accepted = rw cut_is at (begins_cut begins.0).0

  pub redex_front : front (redex_in plan redex) ≡ p.old
  redex_front = rw cut_is at (begins_cut begins.0).1 ∙ begins.1

  redex_ready : (c : Program) → program_in code ≡ some c → Ready code (redex_in plan redex) p.table c redex.build redex.entries
  redex_ready c e = rw cut_is at (ready_cut begins.0 (p.ready c e))

  -- ---- Its places noted, and weighed

  -- the redex as it is lent
  abbrev lent : List ℕ
  lent = take (2 * redex.node + redex.words - 2 * redex.node) (drop (2 * redex.node) plan)

  lent_is : lent ≡ redex_in plan redex
  lent_is = let e : 2 * redex.node + redex.words - 2 * redex.node ≡ redex.words = omega arith in rw e refl

  pub lent_accepted : subject_in lent ≡ answered (front lent)
  lent_accepted = rw lent_is redex_accepted

  module _ (places : List ℕ) (l : length places ≡ length (take 4096 (drop 4096 work))) where
    -- the working table with the places that were noted, behind the links
    abbrev noted : List ℕ
    noted = take 4096 work ++ (places ++ drop 4096 (drop 4096 work))

    places_there : drop 4096 (take 8192 noted) ≡ places
    places_there =
        let h = p.work_long in
        drop_take 4096 8192 noted
        ∙ ap (take 4096) (drop_at (take 4096 work) (places ++ drop 4096 (drop 4096 work)) 4096 (length-take-le 4096 work (omega arith)))
        ∙ take_at places (drop 4096 (drop 4096 work)) 4096 (l ∙ length-take-le 4096 (drop 4096 work) (omega (arith, length-drop 4096 work)))

    module _ (same : length noted ≡ length work) where
      -- the part of it that is lent to weigh in
      pub lent_long : length (take 8192 noted) ≡ 8192
      lent_long = length-take-le 8192 noted (omega (arith, p.work_long))

      pub building_at : take (nodes (front lent)) places ≡ places_of 1 0 (front lent) → Building code redex.build lent entries (take 8192 noted)
      building_at s =
          let v : take (nodes (front (redex_in plan redex))) places ≡ places_of 1 0 (front (redex_in plan redex)) = rw lent_is at s in
          rw lent_is (record {
            begun = record {
              long = omega (arith, lent_long);
              passed = p.passed;
              accepted = redex_accepted;
              places = ap (take (nodes (front (redex_in plan redex)))) places_there ∙ v;
            };
            table = p.table;
            made = redex.entries;
            enough = p.enough;
            these = p.these;
            ready = redex_ready;
          })

      -- what was weighed there is said of the whole working table
      pub weighs_redex : (table rest : List ℕ) {r : Result Weighed Refusal} → length (table ++ rest) ≡ length work
          → Weighs code lent entries (take 8192 noted) table (room_for most words redex) redex.level r
          → WeighsRedex code redex entries plan words most work (table ++ rest) r
      weighs_redex table rest {r} k s =
          let v : Weighs code (redex_in plan redex) entries (take 8192 noted) table (room_for most words redex) redex.level r = rw lent_is at s in
          record { long = k; term = v.term; ends = v.ends; says = rw (take_at table rest 8192 (v.long ∙ lent_long)) v.says }
