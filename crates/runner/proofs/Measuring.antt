-- The result was weighed: the refusal that is due, or what is written where none is.
use mathlib.Core.Path.{◌≡◌, ◌∙◌}
use Prim.Native.Nat.{ℕ, ◌-◌, ◌*◌, ◌/◌, ◌≤◌, min}
use native.Mathlib.Omega.{arith}
use mathlib.Core.List.{List}
use lib.ListN.{length}
use Rattle.std.specs.Prelude.{Result, Ok, Err}
use Rattle.documents.specs.declared.Refusal.{Refusal}
use Rattle.documents.specs.Terms.{Term}
use Rattle.documents.specs.Tables.{table_of, nodes}
use Rattle.documents.specs.Numbers.{result_for}
use Rattle.documents.specs.Calls.{run_answer, run_call}
use Rattle.documents.proofs.Lists.{T_of}
use Rattle.safety.proofs.NeverStuck.{passing_obeys}
use Rattle.writer.specs.Written.{Wrote}
use Rattle.builder.specs.declared.Weighed.{Weighed}
use Rattle.builder.specs.Weighing.{Building, Built, WeighedAs, Weighs}
use Rattle.builder.proofs.Readied.{program_of}
use Rattle.builder.proofs.Weighing.{weighed_small}
use Rattle.runner.specs.Answers.{Applied}
use Rattle.runner.proofs.Answering.{run_makes, result_refused, result_written}

module _ {code : List ℕ} {at : ℕ} {subject entries work : List ℕ} (b : Building code at subject entries work) (result : List ℕ) {most : ℕ} (m : most ≡ min 4096 (length result / 2))
    {work' : List ℕ} {r : Result Weighed Refusal} (s : Weighs code subject entries work work' most 1 r) where
  -- what is given of the term is given of the call
  answers : run_answer work result (result_for (length result) s.term) ≡ run_call code subject work result
  answers =
      let e = s.ends (program_of code b.begun.passed) (passing_obeys code (T_of _ b.begun.passed)).1 in
      run_makes code subject work result b.begun.long b.begun.passed b.begun.accepted e.0 s.term e.1

  pub refuses : {w : Refusal} → r ≡ Err w → Applied code subject work work' result result (Err w)
  refuses {w} e =
      let k : WeighedAs code subject entries work' (min 4096 (length result / 2)) 1 s.term (Err w) = rw (e, m) at s.says in
      record { long = s.long; says = result_refused work result s.term w k ∙ answers }

  module _ {made : Weighed} (e : r ≡ Ok made) where
    weight : WeighedAs code subject entries work' (min 4096 (length result / 2)) 1 s.term (Ok made)
    weight = rw (e, m) at s.says

    -- two words a node, of which there are few
    pub words_fit : (made.nodes ≤ 4096) × (2 * made.nodes ≤ length result)
    words_fit = let k = weight.0 in let h = weighed_small (min 4096 (length result / 2)) 1 s.term (table_of s.term) weight.1 in (omega arith, omega arith)

    pub stands : (u : Term) × Built code subject entries work' made.root u × (2 * nodes u ≤ 2 * made.nodes)
    stands = (s.term, weight.2, let k = weight.0 in omega arith)

    pub writes : {result' : List ℕ} → ((u : Term) → Built code subject entries work' made.root u → 2 * nodes u ≤ 2 * made.nodes → Wrote result result' (2 * made.nodes - 2 * nodes u) (2 * made.nodes) (table_of u))
        → Applied code subject work work' result result' (Ok (2 * made.nodes))
    writes {result'} w =
        let k = weight.0 in
        let y : Wrote result result' (2 * made.nodes - 2 * nodes s.term) (2 * made.nodes) (table_of s.term) = w s.term weight.2 (omega arith) in
        let i : 2 * nodes s.term - 2 * nodes s.term ≡ 0 = omega arith in
        record { long = s.long; says = rw k (result_written work result s.term weight.1 (rw (k, i) at y)) ∙ answers }
