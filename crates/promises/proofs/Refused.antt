-- The rest of demand 1: the numbers are different, a refusal leaves what was lent and counts nothing, and every run leaves zeros.
use mathlib.Core.Path.{◌≡◌, refl, sym, ap, ◌∙◌}
use Prim.Native.Nat.{ℕ, ◌<◌}
use native.Mathlib.Omega.{arith}
use mathlib.Core.Bool.{cond}
use mathlib.Core.List.{List, [], ◌∷◌}
use lib.Dec.{T, eqb, leb}
use lib.ListN.{length, replicate}
use borrow.Author.Tests.{leb-true}
use Rattle.documents.specs.declared.Refusal.{Refusal}
use Rattle.documents.specs.declared.Refusal.TheVariants.{TableNotGood, TooManyWords, TooDeep, MetavariableInSubject, LeftRootNoSymbol, FreeVariable, ArgumentsNotDistinctVariables, MetavariableAbsentOnLeft, TooManyMetavariables, CodeTableShort, DoesNotPass, MatchFails, ResultTooLarge, ResultTooDeep, ResultIndexTooLarge, WorkingTableShort, BadFile, ListTooLong}
use Rattle.documents.specs.Numbers.{number_of, Answer, answered, refused, or_refuse, with, rule_in, code_for}
use Rattle.documents.specs.Calls.{File, file, file_in, read_answer, read_call, compile_answer, compile_call, run_answer, runs, run_call, WatchAnswer, watch_answer, watches, watch_call}
use Rattle.documents.proofs.Lists.{on}
use Rattle.promises.proofs.Ordered.{DoneIsZero, watches_zero}

-- ---- The numbers

-- The refusal with a number, looked for among all of them. Asked of a number that none has, it gives one of them too; nobody does.
abbrev numbered : List Refusal → ℕ → Refusal
numbered [] n = BadFile
numbered (r ∷ rs) n = cond (eqb (number_of r) n) r (numbered rs n)

abbrev refusal_of : ℕ → Refusal
refusal_of n =
    numbered (TableNotGood ∷ TooManyWords ∷ TooDeep ∷ MetavariableInSubject ∷ LeftRootNoSymbol ∷ FreeVariable ∷ ArgumentsNotDistinctVariables ∷ MetavariableAbsentOnLeft ∷ TooManyMetavariables ∷ CodeTableShort ∷ DoesNotPass ∷ MatchFails ∷ ResultTooLarge ∷ ResultTooDeep ∷ ResultIndexTooLarge ∷ WorkingTableShort ∷ BadFile ∷ ListTooLong ∷ []) n

refusal_of_number : (r : Refusal) → (refusal_of (number_of r) ≡ r) × T (leb 1 (number_of r))
refusal_of_number TableNotGood = (refl, tt)
refusal_of_number TooManyWords = (refl, tt)
refusal_of_number TooDeep = (refl, tt)
refusal_of_number MetavariableInSubject = (refl, tt)
refusal_of_number LeftRootNoSymbol = (refl, tt)
refusal_of_number FreeVariable = (refl, tt)
refusal_of_number ArgumentsNotDistinctVariables = (refl, tt)
refusal_of_number MetavariableAbsentOnLeft = (refl, tt)
refusal_of_number TooManyMetavariables = (refl, tt)
refusal_of_number CodeTableShort = (refl, tt)
refusal_of_number DoesNotPass = (refl, tt)
refusal_of_number MatchFails = (refl, tt)
refusal_of_number ResultTooLarge = (refl, tt)
refusal_of_number ResultTooDeep = (refl, tt)
refusal_of_number ResultIndexTooLarge = (refl, tt)
refusal_of_number WorkingTableShort = (refl, tt)
refusal_of_number BadFile = (refl, tt)
refusal_of_number ListTooLong = (refl, tt)

pub one_number_lem : (r s : Refusal) → number_of r ≡ number_of s → r ≡ s
one_number_lem r s e = sym (refusal_of_number r).0 ∙ ap refusal_of e ∙ (refusal_of_number s).0

pub not_done_lem : (r : Refusal) → 0 < number_of r
not_done_lem r = leb-true 1 (number_of r) (on (leb 1 (number_of r)) (refusal_of_number r).1)

-- ---- What a refusal leaves

pub read_leaves_lem : (bytes left right subject : List ℕ) → 0 < (read_call bytes left right subject).number
    → read_call bytes left right subject
    ≡ record { number = (read_call bytes left right subject).number; left_words = 0; right_words = 0; subject_words = 0; left = left; right = right; subject = subject }
unfolding read_call
read_leaves_lem bytes left right subject h = go (or_refuse (file_in (length left) (length right) (length subject) bytes) BadFile) h
  where
    go : (a : Answer File) → 0 < (read_answer left right subject a).number
        → read_answer left right subject a
        ≡ record { number = (read_answer left right subject a).number; left_words = 0; right_words = 0; subject_words = 0; left = left; right = right; subject = subject }
    go (answered (file l r s)) h = absurd (omega arith)
    go (refused r) h = refl

pub compile_leaves_lem : (left right code : List ℕ) → 0 < (compile_call left right code).number
    → compile_call left right code ≡ record { number = (compile_call left right code).number; words = 0; code = code }
unfolding compile_call
compile_leaves_lem left right code h = go (with (rule_in left right) (code_for (length code))) h
  where
    go : (a : Answer (List ℕ)) → 0 < (compile_answer code a).number → compile_answer code a ≡ record { number = (compile_answer code a).number; words = 0; code = code }
    go (answered ws) h = absurd (omega arith)
    go (refused r) h = refl

pub run_leaves_lem : (code subject working result : List ℕ) → 0 < (run_call code subject working result).number
    → ((run_call code subject working result).words ≡ 0) × ((run_call code subject working result).result ≡ result)
unfolding run_call
run_leaves_lem code subject working result h = go (runs code subject (length working) (length result)) h
  where
    go : (a : Answer (List ℕ)) → 0 < (run_answer working result a).number → ((run_answer working result a).words ≡ 0) × ((run_answer working result a).result ≡ result)
    go (answered ws) h = absurd (omega arith)
    go (refused r) h = (refl, refl)

pub watch_leaves_lem : (code subject : List ℕ) (i : ℕ) → 0 < (watch_call code subject i).number
    → watch_call code subject i ≡ record { number = (watch_call code subject i).number; current = 0; entries = 0; finished = 0; node = 0 }
unfolding watch_call
watch_leaves_lem code subject i h = go (watches code subject i) (watches_zero code subject i) h
  where
    go : (a : Answer WatchAnswer) → DoneIsZero a → 0 < (watch_answer a).number
        → watch_answer a ≡ record { number = (watch_answer a).number; current = 0; entries = 0; finished = 0; node = 0 }
    go (answered w) z h = absurd (omega (arith, z, h))
    go (refused r) z h = refl

-- ---- What every run leaves

pub run_zeros : (code subject working result : List ℕ) → (run_call code subject working result).working ≡ replicate (length working) 0
unfolding run_call
run_zeros code subject working result = go (runs code subject (length working) (length result))
  where
    go : (a : Answer (List ℕ)) → (run_answer working result a).working ≡ replicate (length working) 0
    go (answered ws) = refl
    go (refused r) = refl
