-- Request 1 in small cases, as one table. Law `examples`: all of them hold.
use Rattle.std.specs.Prelude.{ℕ, Bool, cond, List, [], ◌∷◌, ◌++◌, length, take, replicate}
use Rattle.documents.specs.Terms.{Var, Sym, Meta, Abst, Nil, Cons, Term}
use Rattle.documents.specs.Tables.{table_of}
use Rattle.documents.specs.Instructions.{words}
use Rattle.documents.specs.Translation.{compile}
use Rattle.documents.specs.Examples.{same_words}
use Rattle.rewriting.specs.RuleTable.{rule_table}
use Rattle.rewriting.specs.ListCall.{list_working_words, ListAnswer, list_call}

-- number, word count, rewrites made, 1 where no rule matches any more, result words
abbrev pub line : ListAnswer → List ℕ
line a = a.number ∷ a.words ∷ a.rewrites ∷ cond a.normal 1 0 ∷ take a.words a.result

pub data Case : Type 0 where
  -- rules, subject, number of rewrites, words of the result table, and the line
  gives : List ℕ → List ℕ → ℕ → ℕ → List ℕ → Case

abbrev pub holds : Case → Bool
holds (gives rules subject number room l) = same_words (line (list_call rules subject number (replicate list_working_words 0) (replicate room 0))) l

-- Letters as in document 01's examples: App is 1/2, Lam 2/1; other letters are symbols, Z a metavariable.
abbrev App : Term → Term → Term
App t u = Sym 1 (Cons t (Cons u Nil))

abbrev Lam : Term → Term
Lam t = Sym 2 (Cons t Nil)

abbrev C : Term
C = Sym 3 Nil

abbrev F : Term → Term
F t = Sym 4 (Cons t Nil)

abbrev G : Term → Term
G t = Sym 5 (Cons t Nil)

abbrev Z : Term
Z = Meta 1 Nil

-- a plan that rule B rewrites twice, and what it is after once
abbrev twice : Term
twice = App (Lam (Abst (App (Lam (Abst (Var 0))) (Var 0)))) (Var 7)

abbrev left : Term
left = App (Lam (Abst (Var 0))) (Var 7)

abbrev code : Term → Term → List ℕ
code l r = words (compile l r)

-- rule B, beta
abbrev rule_b : List ℕ
rule_b = code (App (Lam (Abst (Meta 1 (Cons (Var 0) Nil)))) (Meta 2 Nil)) (Meta 1 (Cons (Meta 2 Nil) Nil))

-- G(Z) to C
abbrev drop_g : List ℕ
drop_g = code (G Z) C

-- F(Z) to Z
abbrev open_f : List ℕ
open_f = code (F Z) Z

-- F(Z) to F(F(Z)), which never ends
abbrev grow_f : List ℕ
grow_f = code (F Z) (F (F Z))

-- G(Z) to F(F(Z))
abbrev grow_g : List ℕ
grow_g = code (G Z) (F (F Z))

-- F(F(Z)) to Z
abbrev open_two : List ℕ
open_two = code (F (F Z)) Z

-- F(Z) to F([Z])
abbrev under_f : List ℕ
under_f = code (F Z) (F (Abst Z))

-- 0, the words of the plan, the rewrites made, the flag, the plan
abbrev done_with : Term → ℕ → ℕ → List ℕ
done_with t n q = 0 ∷ length (table_of t) ∷ n ∷ q ∷ table_of t

abbrev refusal : ℕ → List ℕ
refusal n = n ∷ 0 ∷ 0 ∷ 0 ∷ []

abbrev pub table : List Case
table =
    -- rule B twice; once where the number is used up; never with number 0
    gives (rule_table (rule_b ∷ [])) (table_of twice) 1000 32 (done_with (Var 7) 2 1)
    ∷ gives (rule_table (rule_b ∷ [])) (table_of twice) 1 32 (done_with left 1 0)
    ∷ gives (rule_table (rule_b ∷ [])) (table_of left) 0 32 (done_with left 0 0)
    -- below the root, under an abstraction
    ∷ gives (rule_table (rule_b ∷ [])) (table_of (Abst (F (App (Lam (Abst (Var 1))) (Var 0))))) 5 32 (done_with (Abst (F (Var 0))) 1 1)
    -- the first node goes before the first rule: F opens before G is dropped
    ∷ gives (rule_table (drop_g ∷ open_f ∷ [])) (table_of (F (G (Var 7)))) 1 32 (done_with (G (Var 7)) 1 0)
    ∷ gives (rule_table (drop_g ∷ open_f ∷ [])) (table_of (F (G (Var 7)))) 2 32 (done_with C 2 1)
    -- at one node the first rule that matches goes
    ∷ gives (rule_table (grow_f ∷ open_f ∷ [])) (table_of (F C)) 1 32 (done_with (F (F C)) 1 0)
    ∷ gives (rule_table (open_f ∷ grow_f ∷ [])) (table_of (F C)) 1 32 (done_with C 1 1)
    -- a rule that never ends is stopped by the number
    ∷ gives (rule_table (grow_f ∷ [])) (table_of (F C)) 3 32 (done_with (F (F (F (F C)))) 3 0)
    -- the second plan breaks a limit: three nodes in four words of result, an index over 65,535; the subject alone keeps both
    ∷ gives (rule_table (grow_f ∷ [])) (table_of (F C)) 3 4 (refusal 13)
    ∷ gives (rule_table (grow_f ∷ [])) (table_of (F C)) 0 4 (done_with (F C) 0 0)
    ∷ gives (rule_table (under_f ∷ [])) (table_of (F (Var 65535))) 1 32 (refusal 15)
    -- the subject breaks it, with no rewrite allowed and where the next plan would keep it; a plan between two that keep it
    ∷ gives (rule_table (grow_f ∷ [])) (table_of (F C)) 0 3 (refusal 13)
    ∷ gives (rule_table (open_f ∷ [])) (table_of (F C)) 1 2 (refusal 13)
    ∷ gives (rule_table (open_two ∷ grow_g ∷ [])) (table_of (G C)) 2 4 (refusal 13)
    ∷ gives (rule_table (open_two ∷ grow_g ∷ [])) (table_of (G C)) 2 6 (done_with C 2 1)
    -- no rule, a rule of no words, a cut one, a table that is not good; a metavariable
    ∷ gives [] (table_of (F C)) 7 32 (done_with (F C) 0 1)
    ∷ gives (0 ∷ []) (table_of (F C)) 7 32 (refusal 11)
    ∷ gives (rule_table (grow_f ∷ []) ++ (1 ∷ [])) (table_of (F C)) 7 32 (refusal 11)
    ∷ gives (rule_table (grow_f ∷ [])) [] 7 32 (refusal 1)
    ∷ gives (rule_table (grow_f ∷ [])) (table_of (F Z)) 7 32 (refusal 4)
    -- 32 rules, the last one cut; 33; 1,001 rewrites
    ∷ gives (replicate 31 0 ++ (1 ∷ [])) (table_of (F C)) 7 32 (refusal 11)
    ∷ gives (replicate 32 0 ++ (1 ∷ [])) (table_of (F C)) 7 32 (refusal 37)
    ∷ gives (rule_table (grow_f ∷ [])) (table_of (F C)) 1001 32 (refusal 37)
    ∷ []
