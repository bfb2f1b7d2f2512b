-- The next plan's words: those before the redex, the new ones, those behind it.
use mathlib.Core.Path.{◌≡◌, refl, sym, ap, ap₂, ◌∙◌}
use Prim.Native.Nat.{ℕ, ◌+◌, ◌-◌, ◌*◌, ◌≤◌}
use native.Mathlib.Omega.{arith}
use mathlib.Core.List.{List, ◌++◌}
use lib.ListN.{length, take, drop}
use lib.Seq.{take-add, take-append-add}
use Rattle.documents.specs.Terms.{Term}
use Rattle.documents.specs.Tables.{table_of, nodes}
use Rattle.documents.proofs.Tables.{length_table_of}
use Rattle.writer.specs.Written.{Wrote}
use Rattle.builder.specs.Weighing.{Built}
use Rattle.rewriter.specs.declared.Redex.{Redex}
use Rattle.rewriter.specs.Replaces.{redex_in, exchanged, SetAside, Exchanging, Exchanges}
use Rattle.rewriter.proofs.Copied.{drop_take}

-- the copy of the redex, as it is lent
pub copy_lent : (old : ℕ) (work : List ℕ) → take (8192 + old - 8192) (drop 8192 work) ≡ take old (drop 8192 work)
copy_lent old work = let e : 8192 + old - 8192 ≡ old = omega arith in rw e refl

-- words written where others stood, with those behind them in their new place
spliced : {d e ws : List ℕ} {first next : ℕ} (k : ℕ) → Wrote d e first next ws → take (first + (length ws + k)) e ≡ take first d ++ (ws ++ take k (drop next d))
spliced {d} {e} {ws} {first} {next} k w =
    take-add first (length ws + k) e
    ∙ ap₂ ◌++◌ w.before (ap (take (length ws + k)) w.behind ∙ take-append-add ws (drop next d) k)

module _ {code : List ℕ} {redex : Redex} {entries plan : List ℕ} {words : ℕ} {work : List ℕ} {n z : ℕ} (x : Exchanging code redex entries plan words work n z)
    {plan₁ work₁ : List ℕ} (s : SetAside plan plan₁ work work₁ words (2 * redex.node) (2 * redex.node + redex.words) (2 * redex.node + 2 * n)) where
  -- it stands ready over the copy as it did over the plan
  built_aside : {u : Term} → Built code (redex_in plan redex) entries (take 8192 work) z u
      → Built code (take redex.words (drop 8192 work₁)) entries (take 8192 work₁) z u
  built_aside b =
      let e : 2 * redex.node + redex.words - 2 * redex.node ≡ redex.words = omega arith in
      let a : take redex.words (drop 8192 work₁) ≡ redex_in plan redex = rw e at s.aside in
      rw (a, s.links) b

  pub may_put : ((u : Term) × Built code (take redex.words (drop 8192 work₁)) entries (take 8192 work₁) z u × (2 * nodes u ≤ 2 * redex.node + 2 * n))
      × (2 * redex.node + 2 * n ≤ length plan₁) × (8192 + redex.words ≤ length work₁)
  may_put =
      let e = x.size in
      ((x.term, built_aside x.built, omega arith), omega (arith, x, s.table_stays), omega (arith, x, s.work_stays))

  pub exchanges : {plan₂ : List ℕ} → length plan₂ ≡ length plan₁
      → ((u : Term) → Built code (take redex.words (drop 8192 work₁)) entries (take 8192 work₁) z u → 2 * nodes u ≤ 2 * redex.node + 2 * n
      → Wrote plan₁ plan₂ (2 * redex.node + 2 * n - 2 * nodes u) (2 * redex.node + 2 * n) (table_of u))
      → Exchanges code redex entries plan plan₂ words work work₁ n z
  exchanges {plan₂} same f = record {
    table_stays = same ∙ s.table_stays;
    work_stays = s.work_stays;
    front_is = λ u e b. front_is u e (f u (built_aside b) (omega arith));
  }
    where
      front_is : (u : Term) → n ≡ nodes u → Wrote plan₁ plan₂ (2 * redex.node + 2 * n - 2 * nodes u) (2 * redex.node + 2 * n) (table_of u)
          → take (words - redex.words + 2 * n) plan₂ ≡ exchanged plan words redex (table_of u)
      front_is u e w =
          let r : 2 * redex.node + 2 * n - 2 * nodes u ≡ 2 * redex.node = omega arith in
          let y : Wrote plan₁ plan₂ (2 * redex.node) (2 * redex.node + 2 * n) (table_of u) = rw r at w in
          let k : words - redex.words + 2 * n ≡ 2 * redex.node + (length (table_of u) + (words - (2 * redex.node + redex.words))) =
          omega (arith, x.inside, length_table_of u) in
          rw k (spliced (words - (2 * redex.node + redex.words)) y)
          ∙ ap₂ (λ (a b : List ℕ). a ++ (table_of u ++ b)) s.before (s.behind ∙ sym (drop_take (2 * redex.node + redex.words) words plan))
