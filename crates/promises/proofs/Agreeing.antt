-- How tight the contracts are: a contract gives one answer and one content of each lent table, so two outcomes that it allows agree.
use mathlib.Core.Path.{◌≡◌, refl, sym, ap, ◌∙◌}
use Prim.Native.Nat.{ℕ}
use mathlib.Core.List.{List}
use Rattle.documents.specs.Calls.{ReadAnswer, CompileAnswer, RunAnswer, WatchAnswer}
use Rattle.answers.specs.declared.ReedReadAnswer.{ReedReadAnswer}
use Rattle.answers.specs.declared.ReedAnswer.{ReedAnswer}
use Rattle.answers.specs.declared.ReedListAnswer.{ReedListAnswer}
use Rattle.answers.specs.declared.ReedWatchAnswer.{ReedWatchAnswer}
use Rattle.reedbiscuit.specs.Answers.{read_given, Reads, compile_given, Compiles, Checks, run_given, Runs, ListRuns, watch_given, Watches}

-- a struct is what its fields are
same_answer : (a b : ReedAnswer) → a.number ≡ b.number → a.words ≡ b.words → a ≡ b
same_answer a b p q = let e : ◌≡◌ {A = ReedAnswer} (record { number = a.number; words = a.words }) (record { number = b.number; words = b.words }) = rw (p, q) refl in e

same_read : (a b : ReedReadAnswer) → a.number ≡ b.number → a.left ≡ b.left → a.right ≡ b.right → a.subject ≡ b.subject → a ≡ b
same_read a b p q r s = let e : ◌≡◌ {A = ReedReadAnswer} (record { number = a.number; left = a.left; right = a.right; subject = a.subject }) (record { number = b.number; left = b.left; right = b.right; subject = b.subject }) = rw (p, q, r, s) refl in e

same_watch : (a b : ReedWatchAnswer) → a.number ≡ b.number → a.current ≡ b.current → a.entries ≡ b.entries → a.finished ≡ b.finished → a.node ≡ b.node → a ≡ b
same_watch a b p q r s t = let e : ◌≡◌ {A = ReedWatchAnswer} (record { number = a.number; current = a.current; entries = a.entries; finished = a.finished; node = a.node }) (record { number = b.number; current = b.current; entries = b.entries; finished = b.finished; node = b.node }) = rw (p, q, r, s, t) refl in e

pub reads_agree : (file left right subject : List ℕ) (a b : ReedReadAnswer) (left₁ right₁ subject₁ left₂ right₂ subject₂ : List ℕ)
    → Reads file left right subject a left₁ right₁ subject₁ → Reads file left right subject b left₂ right₂ subject₂
    → (a ≡ b) × (left₁ ≡ left₂) × (right₁ ≡ right₂) × (subject₁ ≡ subject₂)
reads_agree file left right subject a b left₁ right₁ subject₁ left₂ right₂ subject₂ p q = go (p ∙ sym q)
  where
    go : read_given a left₁ right₁ subject₁ ≡ read_given b left₂ right₂ subject₂ → (a ≡ b) × (left₁ ≡ left₂) × (right₁ ≡ right₂) × (subject₁ ≡ subject₂)
    go e = (
      same_read a b (ap (λ (x : ReadAnswer). x.number) e) (ap (λ (x : ReadAnswer). x.left_words) e) (ap (λ (x : ReadAnswer). x.right_words) e) (ap (λ (x : ReadAnswer). x.subject_words) e),
      ap (λ (x : ReadAnswer). x.left) e,
      ap (λ (x : ReadAnswer). x.right) e,
      ap (λ (x : ReadAnswer). x.subject) e,
    )

pub compiles_agree : (left right code : List ℕ) (a b : ReedAnswer) (code₁ code₂ : List ℕ) → Compiles left right code a code₁ → Compiles left right code b code₂
    → (a ≡ b) × (code₁ ≡ code₂)
compiles_agree left right code a b code₁ code₂ p q = go (p ∙ sym q)
  where
    go : compile_given a code₁ ≡ compile_given b code₂ → (a ≡ b) × (code₁ ≡ code₂)
    go e = (same_answer a b (ap (λ (x : CompileAnswer). x.number) e) (ap (λ (x : CompileAnswer). x.words) e), ap (λ (x : CompileAnswer). x.code) e)

pub checks_agree : (code : List ℕ) (m n : ℕ) → Checks code m → Checks code n → m ≡ n
checks_agree code m n p q = p ∙ sym q

pub runs_agree : (code subject working result : List ℕ) (a b : ReedAnswer) (working₁ result₁ working₂ result₂ : List ℕ)
    → Runs code subject working result a working₁ result₁ → Runs code subject working result b working₂ result₂
    → (a ≡ b) × (working₁ ≡ working₂) × (result₁ ≡ result₂)
runs_agree code subject working result a b working₁ result₁ working₂ result₂ p q = go (p ∙ sym q)
  where
    go : run_given a working₁ result₁ ≡ run_given b working₂ result₂ → (a ≡ b) × (working₁ ≡ working₂) × (result₁ ≡ result₂)
    go e = (
      same_answer a b (ap (λ (x : RunAnswer). x.number) e) (ap (λ (x : RunAnswer). x.words) e),
      ap (λ (x : RunAnswer). x.working) e,
      ap (λ (x : RunAnswer). x.result) e,
    )

pub watches_agree : (code subject : List ℕ) (i : ℕ) (a b : ReedWatchAnswer) → Watches code subject i a → Watches code subject i b → a ≡ b
watches_agree code subject i a b p q = go (p ∙ sym q)
  where
    go : watch_given a ≡ watch_given b → a ≡ b
    go e =
        same_watch a b (ap (λ (x : WatchAnswer). x.number) e) (ap (λ (x : WatchAnswer). x.current) e) (ap (λ (x : WatchAnswer). x.entries) e) (ap (λ (x : WatchAnswer). x.finished) e) (ap (λ (x : WatchAnswer). x.node) e)

pub list_runs_agree : (rules subject : List ℕ) (number : ℕ) (working result : List ℕ) (a b : ReedListAnswer) (working₁ result₁ working₂ result₂ : List ℕ)
    → ListRuns rules subject number working result a working₁ result₁ → ListRuns rules subject number working result b working₂ result₂
    → (a ≡ b) × (working₁ ≡ working₂) × (result₁ ≡ result₂)
list_runs_agree rules subject number working result a b working₁ result₁ working₂ result₂ (p, q, r) (p', q', r') = (p ∙ sym p', q ∙ sym q', r ∙ sym r')
