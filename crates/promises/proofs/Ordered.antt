-- Demand 1's order: the number of each call is the first in its list that is due. A law for each thing that goes in (a table, a subject, code):
-- its refusals come first, and where none of them is due the rest of the list decides over what was read. That an instruction has no step, or
-- that no term is finished, cannot be: the code has passed.
use mathlib.Core.Path.{◌≡◌, refl, sym, ap, ◌∙◌}
use mathlib.Core.Logic.{inl, inr}
use Prim.Native.Nat.{ℕ, ◌*◌, ◌/◌, min}
use mathlib.Core.Bool.{Bool, true, false, not, ◌&&◌, cond}
use mathlib.Core.Option.{Option, none, some}
use mathlib.Core.List.{List, [], ◌∷◌, ◌++◌}
use lib.Dec.{T, leb}
use lib.ListN.{length}
use Rattle.documents.specs.declared.Refusal.{Refusal}
use Rattle.documents.specs.declared.Refusal.TheVariants.{TableNotGood, TooManyWords, TooDeep, MetavariableInSubject, LeftRootNoSymbol, FreeVariable, ArgumentsNotDistinctVariables, MetavariableAbsentOnLeft, TooManyMetavariables, CodeTableShort, DoesNotPass, ResultTooLarge, ResultTooDeep, ResultIndexTooLarge, WorkingTableShort, BadFile}
use Rattle.documents.specs.Limits.{side_limit, plan_limit, depth_limit, metavariable_limit, working_words, index_limit}
use Rattle.documents.specs.Lists.{every, is_empty}
use Rattle.documents.specs.Terms.{Term}
use Rattle.documents.specs.Tables.{table_of, term_in, nodes, depth, indices}
use Rattle.documents.specs.Rules.{metas, simple, is_symbol, closed, contains}
use Rattle.documents.specs.Instructions.{Program, words, program_in}
use Rattle.documents.specs.Machine.{State, state, run, first, finished}
use Rattle.documents.specs.Translation.{symbol_table, compile}
use Rattle.documents.specs.Passing.{obeys, passes}
use Rattle.documents.specs.Numbers.{number_of, Answer, answered, refused, unless, or_refuse, with, table_in, subject_in, rule, Rule, rule_in, code_for, code_in, outcome_of, result_for}
use Rattle.documents.specs.Calls.{File, file, file_in, read_answer, read_call, compile_answer, compile_call, check_call, run_answer, runs, run_call, WatchAnswer, counts, watch_answer, watches, watch_call}
use Rattle.documents.proofs.Lists.{case}
use Rattle.safety.specs.Finishes.{Finishes}
use Rattle.safety.proofs.NeverStuck.{passing_obeys, obeying_finishes}
use Rattle.safety.proofs.Counts.{Progress, Comes, progress_of_passing, first_counted}
use Rattle.promises.specs.Order.{due, Due, first_due, over, missing, of, of_both, table_order, subject_order, read_order, compile_order, check_order, run_order, watch_order, failed, result_breaks, plan_order}

-- an answer's number
abbrev pub numbered : {A : Type 0} → Answer A → ℕ
numbered (answered a) = 0
numbered (refused r) = number_of r

pub first_unless : {A : Type 0} (q : Bool) (r : Refusal) (a : Answer A) → numbered (unless q r a) ≡ cond (not q) (number_of r) (numbered a)
first_unless true r a = refl
first_unless false r a = refl

pub with_with : {A B C : Type 0} (a : Answer A) (f : A → Answer B) (g : B → Answer C) → with (with a f) g ≡ with a (λ x. with (f x) g)
with_with (answered x) f g = refl
with_with (refused r) f g = refl

with_answered : {A : Type 0} (a : Answer A) → with a answered ≡ a
with_answered (answered x) = refl
with_answered (refused r) = refl

-- ---- What goes in

module _ {A : Type 0} (f : Term → Answer A) (rest : List Due) where
  pub table_order_lem : (limit : ℕ) (ws : List ℕ) → ((t : Term) → term_in ws ≡ some t → numbered (f t) ≡ first_due rest)
      → numbered (with (table_in limit ws) f) ≡ first_due (table_order limit ws ++ rest)
  unfolding table_in
  table_order_lem limit ws h = go (leb (length ws) (2 * limit)) (term_in ws) refl
    where
      shallow : (t : Term) → term_in ws ≡ some t → (q : Bool) → numbered (with (unless q TooDeep (answered t)) f) ≡ cond (not q) 3 (first_due rest)
      shallow t e true = h t e
      shallow t e false = refl

      go : (q : Bool) (o : Option Term) → term_in ws ≡ o
          → numbered (with (unless q TooManyWords (with (or_refuse o TableNotGood) (λ t. unless (leb (depth t) depth_limit) TooDeep (answered t)))) f)
          ≡ cond (not q) 2 (cond (missing o) 1 (cond (of o (λ t. over depth_limit (depth t))) 3 (first_due rest)))
      go false o e = refl
      go true none e = refl
      go true (some t) e = shallow t e (leb (depth t) depth_limit)

module _ {A : Type 0} (f : Term → Answer A) (rest : List Due) (ws : List ℕ) (h : (t : Term) → term_in ws ≡ some t → numbered (f t) ≡ first_due rest) where
  pub subject_order_lem : numbered (with (subject_in ws) f) ≡ first_due (subject_order ws ++ rest)
  unfolding subject_in
  subject_order_lem =
      rw (with_with (table_in plan_limit ws) (λ t. unless (is_empty (metas t)) MetavariableInSubject (answered t)) f)
      (table_order_lem (λ t. with (unless (is_empty (metas t)) MetavariableInSubject (answered t)) f) (due 4 (of (term_in ws) (λ t. not (is_empty (metas t)))) ∷ rest) plan_limit ws
      (λ t e. rw e (go t e (is_empty (metas t)))))
    where
      go : (t : Term) → term_in ws ≡ some t → (q : Bool) → numbered (with (unless q MetavariableInSubject (answered t)) f) ≡ cond (not q) 4 (first_due rest)
      go t e true = h t e
      go t e false = refl

module _ {A : Type 0} (f : Program → Answer A) (rest : List Due) (code : List ℕ) (h : (c : Program) → program_in code ≡ some c → T (obeys c) → numbered (f c) ≡ first_due rest) where
  pub code_order : numbered (with (code_in code) f) ≡ first_due (due 11 (not (passes code)) ∷ rest)
  unfolding code_in
  code_order =
      case (λ q. numbered (with (unless q DoesNotPass (or_refuse (program_in code) DoesNotPass)) f) ≡ cond (not q) 11 (first_due rest)) (passes code)
      (λ p. let o = passing_obeys code p in rw o.1 (h o.0 o.1 o.2)) (λ p. refl)

-- ---- The calls

pub read_order_lem : (bytes left right subject : List ℕ) → (read_call bytes left right subject).number ≡ first_due (read_order bytes (length left) (length right) (length subject))
unfolding read_call
read_order_lem bytes left right subject = go (file_in (length left) (length right) (length subject) bytes)
  where
    go : (o : Option File) → (read_answer left right subject (or_refuse o BadFile)).number ≡ cond (missing o) 17 0
    go none = refl
    go (some (file l r s)) = refl

module _ (left right : List ℕ) (room : ℕ) where
  -- what is asked of the two sides
  abbrev asked : Term → Term → Answer Rule
  asked l r =
      unless (is_symbol l) LeftRootNoSymbol
      (unless (closed l && closed r) FreeVariable
      (unless (simple l) ArgumentsNotDistinctVariables
      (unless (contains (metas r) (metas l)) MetavariableAbsentOnLeft
      (unless (leb (length (symbol_table l)) metavariable_limit) TooManyMetavariables (answered (rule l r))))))

  sides_order : (l r : Term) (a b c p q : Bool)
      → numbered (with (unless a LeftRootNoSymbol
      (unless b FreeVariable
      (unless c ArgumentsNotDistinctVariables (unless p MetavariableAbsentOnLeft (unless q TooManyMetavariables (answered (rule l r))))))) (code_for room))
      ≡ cond (not a) 5 (cond (not b) 6 (cond (not c) 7 (cond (not p) 8 (cond (not q) 9 (cond (over room (length (words (compile l r)))) 10 0)))))
  sides_order l r false b c p q = refl
  sides_order l r true false c p q = refl
  sides_order l r true true false p q = refl
  sides_order l r true true true false q = refl
  sides_order l r true true true true false = refl
  sides_order l r true true true true true = first_unless (leb (length (words (compile l r))) room) CodeTableShort (answered (words (compile l r)))

  -- 5, 6, 7, 8, 9, 10
  abbrev later : List Due
  later =
      due 5 (of (term_in left) (λ l. not (is_symbol l)))
      ∷ due 6 (of_both (term_in left) (term_in right) (λ l r. not (closed l && closed r)))
      ∷ due 7 (of (term_in left) (λ l. not (simple l)))
      ∷ due 8 (of_both (term_in left) (term_in right) (λ l r. not (contains (metas r) (metas l))))
      ∷ due 9 (of (term_in left) (λ l. over metavariable_limit (length (symbol_table l))))
      ∷ due 10 (of_both (term_in left) (term_in right) (λ l r. over room (length (words (compile l r)))))
      ∷ []

  rule_order : numbered (with (rule_in left right) (code_for room)) ≡ first_due (compile_order left right room)
  unfolding rule_in
  rule_order =
      rw (with_with (table_in side_limit left) (λ l. with (table_in side_limit right) (asked l)) (code_for room))
      (table_order_lem (λ l. with (with (table_in side_limit right) (asked l)) (code_for room)) (table_order side_limit right ++ later) side_limit left (λ l e.
      rw (with_with (table_in side_limit right) (asked l) (code_for room))
      (table_order_lem (λ r. with (asked l r) (code_for room)) later side_limit right (λ r d.
      rw (e, d)
      (sides_order l r (is_symbol l) (closed l && closed r) (simple l) (contains (metas r) (metas l)) (leb (length (symbol_table l)) metavariable_limit))))))

pub compile_order_lem : (left right code : List ℕ) → (compile_call left right code).number ≡ first_due (compile_order left right (length code))
unfolding compile_call
compile_order_lem left right code = go (with (rule_in left right) (code_for (length code))) ∙ rule_order left right (length code)
  where
    go : (a : Answer (List ℕ)) → (compile_answer code a).number ≡ numbered a
    go (answered ws) = refl
    go (refused r) = refl

pub check_order_lem : (code : List ℕ) → check_call code ≡ first_due (check_order code)
unfolding check_call
check_order_lem code = go (passes code)
  where
    go : (q : Bool) → ◌≡◌ {A = ℕ} (cond q 0 11) (cond (not q) 11 0)
    go true = refl
    go false = refl

module _ {A : Type 0} (f : List ℕ → Answer A) (rest : List Due) (room : ℕ) (u : Term) (h : numbered (f (table_of u)) ≡ first_due rest) where
  -- 13, 14, 15
  pub result_order : numbered (with (result_for room u) f) ≡ first_due (plan_order room u ++ rest)
  unfolding result_for
  result_order = go (leb (nodes u) (min plan_limit (room / 2))) (leb (depth u) depth_limit) (every (λ x. leb x index_limit) (indices u))
    where
      go : (a b c : Bool) → numbered (with (unless a ResultTooLarge (unless b ResultTooDeep (unless c ResultIndexTooLarge (answered (table_of u))))) f)
          ≡ cond (not a) 13 (cond (not b) 14 (cond (not c) 15 (first_due rest)))
      go false b c = refl
      go true false c = refl
      go true true false = refl
      go true true true = h

module _ (code subject : List ℕ) (working result : ℕ) where
  -- 12, 13, 14, 15
  abbrev ended : List Due
  ended =
      due 12 (of_both (program_in code) (term_in subject) (λ c t. failed (run c t)))
      ∷ due 13 (result_breaks code subject (λ u. over (min plan_limit (result / 2)) (nodes u)))
      ∷ due 14 (result_breaks code subject (λ u. over depth_limit (depth u)))
      ∷ due 15 (result_breaks code subject (λ u. not (every (λ x. leb x index_limit) (indices u))))
      ∷ []

  abbrev onward : Program → Term → Answer (List ℕ)
  onward c t = with (outcome_of (run c t)) (λ σ. with (or_refuse (finished σ) DoesNotPass) (result_for result))

  ended_order : (c : Program) (t : Term) → program_in code ≡ some c → term_in subject ≡ some t → Finishes c t → numbered (onward c t) ≡ first_due ended
  ended_order c t e d (inl f) = rw (e, d, f) refl
  ended_order c t e d (inr (u, env, free, r)) = rw (e, d, r) (ap numbered (sym (with_answered (result_for result u))) ∙ result_order answered [] result u refl)

  runs_order : numbered (runs code subject working result) ≡ first_due (run_order code subject working result)
  unfolding runs
  runs_order =
      first_unless (leb working_words working) WorkingTableShort _
      ∙ ap (cond (not (leb working_words working)) 16)
      (code_order (λ c. with (subject_in subject) (onward c)) (subject_order subject ++ ended) code (λ c e o.
      subject_order_lem (onward c) ended subject (λ t d. ended_order c t e d (obeying_finishes c t o))))

pub run_order_lem : (code subject working result : List ℕ) → (run_call code subject working result).number ≡ first_due (run_order code subject (length working) (length result))
unfolding run_call
run_order_lem code subject working result = go (runs code subject (length working) (length result)) ∙ runs_order code subject (length working) (length result)
  where
    go : (a : Answer (List ℕ)) → (run_answer working result a).number ≡ numbered a
    go (answered ws) = refl
    go (refused r) = refl

module _ (code subject : List ℕ) (i : ℕ) where
  abbrev looked : List Due
  looked = due 12 (of_both (program_in code) (term_in subject) (λ c t. failed (run (first i c) t))) ∷ []

  abbrev counted : Program → Term → Answer WatchAnswer
  counted c t = with (outcome_of (run (first i c) t)) (λ σ. answered (counts t σ))

  looked_order : (c : Program) (t : Term) (p : Progress) → program_in code ≡ some c → term_in subject ≡ some t → Comes p (run (first i c) t)
      → numbered (counted c t) ≡ first_due looked
  looked_order c t p e d (inl f) = rw (e, d, f) refl
  looked_order c t p e d (inr (τ, r, k)) = rw (e, d, r) refl

  watches_order : numbered (watches code subject i) ≡ first_due (watch_order code subject i)
  unfolding watches
  watches_order =
      code_order (λ c. with (subject_in subject) (counted c)) (subject_order subject ++ looked) code (λ c e o.
      subject_order_lem (counted c) looked subject (λ t d.
      let p = progress_of_passing c i o in looked_order c t p.0 e d (first_counted c t i p.0 o p.1)))

-- where watch is done, its number is 0
abbrev pub DoneIsZero : Answer WatchAnswer → Type 0
DoneIsZero (answered w) = w.number ≡ 0
DoneIsZero (refused r) = Unit {0}

zero_with : {A : Type 0} (a : Answer A) (f : A → Answer WatchAnswer) → ((x : A) → DoneIsZero (f x)) → DoneIsZero (with a f)
zero_with (answered x) f h = h x
zero_with (refused r) f h = tt

pub watches_zero : (code subject : List ℕ) (i : ℕ) → DoneIsZero (watches code subject i)
unfolding watches
watches_zero code subject i =
    zero_with (code_in code) _ (λ c. zero_with (subject_in subject) _ (λ t. zero_with (outcome_of (run (first i c) t)) _ (λ σ. counts_zero t σ)))
  where
    counts_zero : (t : Term) (σ : State) → (counts t σ).number ≡ 0
    counts_zero t (state cs env st off nst) = refl

pub watch_order_lem : (code subject : List ℕ) (i : ℕ) → (watch_call code subject i).number ≡ first_due (watch_order code subject i)
unfolding watch_call
watch_order_lem code subject i = go (watches code subject i) (watches_zero code subject i) ∙ watches_order code subject i
  where
    go : (a : Answer WatchAnswer) → DoneIsZero a → (watch_answer a).number ≡ numbered a
    go (answered w) z = z
    go (refused r) z = refl
