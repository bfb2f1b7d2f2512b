-- Document 01, 'Proved examples', and figure 1 of 004, as one table. Law `examples`: all of them hold.
use Rattle.std.specs.Prelude.{ℕ, Bool, true, false, ◌&&◌, List, [], ◌∷◌, ◌++◌, eqb, length, take, drop, replicate}
use Rattle.documents.specs.Limits.{code_limit}
use Rattle.documents.specs.Terms.{Var, Sym, Meta, Abst, Nil, Cons, Term, Terms}
use Rattle.documents.specs.Tables.{table_of}
use Rattle.documents.specs.Instructions.{Program, IS, ISABST, NEXT, CHECK, SET, CELL, LAMBDA, ADBMAL, PUSHVAR, PUSHI, End, ◌▸◌, None, Body, words}
use Rattle.documents.specs.Calls.{CompileAnswer, compile_call, check_call, plan_line, plan_apply}

abbrev pub same_words : List ℕ → List ℕ → Bool
same_words [] [] = true
same_words [] (y ∷ ys) = false
same_words (x ∷ xs) [] = false
same_words (x ∷ xs) (y ∷ ys) = eqb x y && same_words xs ys

pub data Case : Type 0 where
  -- left, right, the number, and the code
  compiles : List ℕ → List ℕ → ℕ → List ℕ → Case
  -- left, right, subject, and plan_apply's line
  prints : List ℕ → List ℕ → List ℕ → List ℕ → Case
  -- a file's bytes, and plan_apply's line
  applies : List ℕ → List ℕ → Case
  -- code, and the check's number
  checks : List ℕ → ℕ → Case

abbrev pub answers_with : CompileAnswer → ℕ → List ℕ → Bool
answers_with a n code = eqb a.number n && eqb a.words (length code) && same_words (take a.words a.code) code

abbrev pub holds : Case → Bool
holds (compiles left right n code) = answers_with (compile_call left right (replicate code_limit 0)) n code
holds (prints left right subject line) = same_words (plan_line left right subject) line
holds (applies bytes line) = same_words (plan_apply bytes) line
holds (checks code n) = eqb (check_call code) n

-- App is 1/2, Lam 2/1; other letters are symbols, Z a metavariable.
abbrev App : Term → Term → Term
App t u = Sym 1 (Cons t (Cons u Nil))

abbrev Lam : Term → Term
Lam t = Sym 2 (Cons t Nil)

abbrev C : Term
C = Sym 3 Nil

abbrev F : Terms → Term
F ts = Sym 4 ts

abbrev G : Terms → Term
G ts = Sym 5 ts

abbrev P : Terms → Term
P ts = Sym 6 ts

abbrev Z : Terms → Term
Z ts = Meta 1 ts

abbrev just : Term → Terms
just t = Cons t Nil

abbrev both : Term → Term → Terms
both t u = Cons t (Cons u Nil)

-- Rule B, beta, and its code
abbrev left_b : List ℕ
left_b = 65537 ∷ 2 ∷ 65538 ∷ 1 ∷ 196608 ∷ 1 ∷ 131073 ∷ 1 ∷ 0 ∷ 0 ∷ 131074 ∷ 0 ∷ []

abbrev right_b : List ℕ
right_b = 131073 ∷ 1 ∷ 131074 ∷ 0 ∷ []

abbrev code_b : List ℕ
code_b = 0 ∷ 1 ∷ 2 ∷ 0 ∷ 2 ∷ 1 ∷ 1 ∷ 3 ∷ 0 ∷ 4 ∷ 2 ∷ 3 ∷ 0 ∷ 4 ∷ 2 ∷ 13 ∷ 1 ∷ 63 ∷ 1 ∷ 0 ∷ 4 ∷ 13 ∷ 0 ∷ 64 ∷ 0 ∷ []

abbrev subject_b : List ℕ
subject_b = 65537 ∷ 2 ∷ 65538 ∷ 1 ∷ 196608 ∷ 1 ∷ 65539 ∷ 2 ∷ 0 ∷ 0 ∷ 0 ∷ 0 ∷ 7 ∷ 0 ∷ []

-- Lam([App(Z, 0)]) to Z
abbrev left_eta : List ℕ
left_eta = table_of (Lam (Abst (App (Z Nil) (Var 0))))

abbrev right_eta : List ℕ
right_eta = table_of (Z Nil)

-- F([[Z(1,0)]], [[Z(0,1)]]) to C
abbrev left_twice : List ℕ
left_twice = table_of (F (both (Abst (Abst (Z (both (Var 1) (Var 0))))) (Abst (Abst (Z (both (Var 0) (Var 1)))))))

abbrev in_two : Term → Term → List ℕ
in_two t u = table_of (F (both (Abst (Abst t)) (Abst (Abst u))))

-- F(Z) to F([Z])
abbrev left_under : List ℕ
left_under = table_of (F (just (Z Nil)))

abbrev right_under : List ℕ
right_under = table_of (F (just (Abst (Z Nil))))

-- an answer done: 0, the word count, the result's words
abbrev done_with : Term → List ℕ
done_with t = 0 ∷ length (table_of t) ∷ table_of t

abbrev refusal : ℕ → List ℕ
refusal n = n ∷ 0 ∷ []

-- The chain rule of 004, section 6.4: D([x]App(f,g(x))) to M(D([x]g(x)), B(D(f), [x]g(x))), with D 7/1, B 8/2, M 9/2, f and g 1 and 2
abbrev left_chain : List ℕ
left_chain = table_of (Sym 7 (just (Abst (App (Meta 1 Nil) (Meta 2 (just (Var 0)))))))

abbrev g_under : Term
g_under = Abst (Meta 2 (just (Var 0)))

abbrev right_chain : List ℕ
right_chain = table_of (Sym 9 (both (Sym 7 (just g_under)) (Sym 8 (both (Sym 7 (just (Meta 1 Nil))) g_under))))

-- its figure 1
abbrev figure1 : Program
figure1 =
    IS 7 1 ▸ ISABST ▸ IS 1 2 ▸ CHECK (0 ∷ []) ▸ SET ▸ NEXT ▸ CHECK [] ▸ SET ▸ NEXT
    ▸ LAMBDA ▸ PUSHI 0 64 (Body 0 (PUSHVAR 0 ▸ End) None) ▸ ADBMAL ▸ CELL 7 1
    ▸ PUSHI 1 63 None ▸ CELL 7 1
    ▸ LAMBDA ▸ PUSHI 0 64 (Body 0 (PUSHVAR 0 ▸ End) None) ▸ ADBMAL ▸ CELL 8 2 ▸ CELL 9 2 ▸ End

-- figure 1 in words
abbrev words_of_figure1 : List ℕ
words_of_figure1 =
    0 ∷ 7 ∷ 1 ∷ 1 ∷ 0 ∷ 1 ∷ 2 ∷ 3 ∷ 1 ∷ 0 ∷ 4 ∷ 2 ∷ 3 ∷ 0 ∷ 4 ∷ 2
    ∷ 9 ∷ 13 ∷ 0 ∷ 64 ∷ 1 ∷ 0 ∷ 2 ∷ 11 ∷ 0 ∷ 10 ∷ 8 ∷ 7 ∷ 1
    ∷ 13 ∷ 1 ∷ 63 ∷ 0 ∷ 8 ∷ 7 ∷ 1
    ∷ 9 ∷ 13 ∷ 0 ∷ 64 ∷ 1 ∷ 0 ∷ 2 ∷ 11 ∷ 0 ∷ 10 ∷ 8 ∷ 8 ∷ 2 ∷ 8 ∷ 9 ∷ 2 ∷ []

-- B's match part; its build part with a PUSHIMM in the body; a PUSHIMM outside of one; and the body left out, so that no key covers index 0
abbrev match_b : List ℕ
match_b = 0 ∷ 1 ∷ 2 ∷ 0 ∷ 2 ∷ 1 ∷ 1 ∷ 3 ∷ 0 ∷ 4 ∷ 2 ∷ 3 ∷ 0 ∷ 4 ∷ 2 ∷ []

abbrev immediate_in_body : List ℕ
immediate_in_body = 13 ∷ 1 ∷ 63 ∷ 1 ∷ 0 ∷ 2 ∷ 12 ∷ 0 ∷ []

abbrev immediate_outside : List ℕ
immediate_outside = 12 ∷ 0 ∷ []

abbrev key_missing : List ℕ
key_missing = 13 ∷ 1 ∷ 63 ∷ 0 ∷ []

-- the file of P9
abbrev file_of_p9 : List ℕ
file_of_p9 =
    1 ∷ 0 ∷ 0 ∷ 0 ∷ 4 ∷ 0 ∷ 1 ∷ 0 ∷ 4 ∷ 0 ∷ 0 ∷ 0 ∷ 1 ∷ 0 ∷ 2 ∷ 0 ∷ 1 ∷ 0 ∷ 0 ∷ 0 ∷ 0
    ∷ 0 ∷ 0 ∷ 0 ∷ 6 ∷ 0 ∷ 1 ∷ 0 ∷ 4 ∷ 0 ∷ 0 ∷ 0 ∷ 1 ∷ 0 ∷ 3 ∷ 0 ∷ 0 ∷ 0 ∷ 0 ∷ 0 ∷ 1 ∷ 0 ∷ 2 ∷ 0 ∷ 1 ∷ 0 ∷ 0 ∷ 0 ∷ 0
    ∷ 0 ∷ 0 ∷ 0 ∷ 4 ∷ 0 ∷ 1 ∷ 0 ∷ 4 ∷ 0 ∷ 0 ∷ 0 ∷ 1 ∷ 0 ∷ 0 ∷ 255 ∷ 254 ∷ 0 ∷ 0 ∷ 0 ∷ 0 ∷ []

abbrev pub table : List Case
table =
    -- P1
    compiles left_b right_b 0 code_b
    -- P2
    ∷ prints left_b right_b subject_b (0 ∷ 6 ∷ 65539 ∷ 2 ∷ 7 ∷ 0 ∷ 7 ∷ 0 ∷ [])
    -- P3
    ∷ prints left_b right_b (table_of (App (Lam (Abst (Lam (Abst (Var 1))))) (Var 7))) (done_with (Lam (Abst (Var 8))))
    -- P4
    ∷ prints left_b right_b (table_of (App (Lam (Abst (Var 3))) (Var 7))) (done_with (Var 2))
    -- P5
    ∷ prints left_eta right_eta (table_of (Lam (Abst (App (Var 5) (Var 0))))) (done_with (Var 4))
    -- P6
    ∷ prints left_eta right_eta (table_of (Lam (Abst (App (Var 0) (Var 0))))) (refusal 12)
    -- P7
    ∷ prints left_twice (table_of C) (in_two (P (both (Var 1) (Var 0))) (P (both (Var 0) (Var 1)))) (done_with C)
    -- P8
    ∷ prints left_twice (table_of C) (in_two (P (both (Var 1) (Var 0))) (P (both (Var 1) (Var 0)))) (refusal 12)
    -- P9
    ∷ prints left_under right_under (table_of (F (just (Var 65534)))) (done_with (F (just (Abst (Var 65535)))))
    -- P10
    ∷ prints left_under right_under (table_of (F (just (Var 65535)))) (refusal 15)
    -- P11
    ∷ compiles (table_of (F (just (Z (just (Var 0)))))) (table_of C) 6 []
    -- P12
    ∷ compiles (table_of (F (just (Abst (Z (just (G (just (Var 0))))))))) (table_of C) 7 []
    -- figure 1 of 004
    ∷ compiles left_chain right_chain 0 (words figure1)
    ∷ compiles left_chain right_chain 0 words_of_figure1
    -- where 6 and 7 are both due, 6 is given
    ∷ compiles (table_of (F (just (Z (just (G (just (Var 0)))))))) (table_of C) 6 []
    -- code that passes; a PUSHIMM in a body does not, nor a PUSHI that wants a key
    ∷ checks code_b 0
    ∷ checks words_of_figure1 0
    ∷ checks (match_b ++ immediate_outside) 0
    ∷ checks (match_b ++ immediate_in_body) 11
    ∷ checks (match_b ++ key_missing) 11
    -- files: P9's, one byte more, one less, another version, none
    ∷ applies file_of_p9 (done_with (F (just (Abst (Var 65535)))))
    ∷ applies (file_of_p9 ++ (0 ∷ [])) (refusal 17)
    ∷ applies (take 68 file_of_p9) (refusal 17)
    ∷ applies (2 ∷ drop 1 file_of_p9) (refusal 17)
    ∷ applies [] (refusal 17)
    ∷ []
