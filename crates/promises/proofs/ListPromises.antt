-- The promises of specs/ListPromises, each sentence by the law that shows it.
use mathlib.Core.Path.{◌≡◌, refl, sym, ap, ◌∙◌}
use mathlib.Core.Logic.{⊎_elim, ◌↔◌}
use Prim.Native.Nat.{ℕ, zero, suc, ◌+◌, ◌-◌, ◌<◌}
use native.Mathlib.Omega.{arith}
use mathlib.Core.Bool.{Bool, true, false, ◌&&◌}
use mathlib.Core.Option.{Option, none, some, some-injective}
use mathlib.Core.List.{List, [], ◌∷◌}
use lib.Dec.{T, leb}
use lib.ListN.{length, get_elem?, take, replicate}
use Rattle.documents.specs.Lists.{member}
use Rattle.documents.specs.Terms.{Term}
use Rattle.documents.specs.Tables.{table_of}
use Rattle.documents.specs.Rules.{metas, freevars}
use Rattle.documents.specs.Instructions.{Program}
use Rattle.documents.specs.Numbers.{Answer, answered, refused, subject_in, Rule, result_for}
use Rattle.documents.specs.Calls.{at_front}
use Rattle.documents.proofs.Lists.{never}
use Rattle.documents.proofs.Numbers.{unless_is, with_is, subject_in_held}
use Rattle.documents.proofs.FreeVariables.{AllFree, free_in_itself, every_of_free}
use Rattle.safety.proofs.NeverStuck.{obeying_finishes}
use Rattle.safety.proofs.Named.{Named}
use Rattle.rewriting.specs.Rewrites.{is_none, once, plans, last_of, last_plan}
use Rattle.rewriting.specs.Turning.{AllAccepted, programs_of}
use Rattle.rewriting.specs.RuleTable.{listed, rules_in}
use Rattle.rewriting.specs.ListCall.{rule_limit, rewrite_limit, list_working_words, plans_for, Rewritten, rewritten, rewrites, list_runs, ListAnswer, list_answer, list_call}
use Rattle.rewriting.proofs.FirstRule.{obeys_at}
use Rattle.rewriting.proofs.Splicing.{result_within}
use Rattle.rewriting.proofs.Turned.{rewrite_by_exactly, normal_exactly, once_of_rewrite, rewrite_exactly, none_exactly, turns_only_one, rewrite_plain}
use Rattle.rewriting.proofs.Kept.{steps_everywhere, once_free, once_all_free, once_named, subject_named, named_subject}
use Rattle.rewriting.proofs.Sequence.{behind, plans_behind, plans_count, stopped_early, plans_once, plans_keep, last_keeps}
use Rattle.rewriting.proofs.RuleTables.{rules_obey, compiled_rules}
use Rattle.promises.specs.ListPromises.{ListDemand1, ListGiven, Carries, ListDone, ListDemand2, ListDemand3}
use Rattle.promises.proofs.Refused.{not_done_lem}
use Rattle.promises.proofs.ListOrdered.{list_order_lem, never_twelve_lem}
use Rattle.promises.proofs.Again.{left_again}

-- ---- What a refusal leaves, and what every call leaves

module _ (rules subject : List ℕ) (number : ℕ) (working result : List ℕ) where
  call_leaves : 0 < (list_call rules subject number working result).number
      → ((list_call rules subject number working result).words ≡ 0)
      × ((list_call rules subject number working result).rewrites ≡ 0)
      × ((list_call rules subject number working result).normal ≡ false)
      × ((list_call rules subject number working result).result ≡ result)
  unfolding list_call
  call_leaves = go (list_runs rules subject number (length working) (length result))
    where
      go : (a : Answer Rewritten) → 0 < (list_answer working result a).number
          → ((list_answer working result a).words ≡ 0)
          × ((list_answer working result a).rewrites ≡ 0)
          × ((list_answer working result a).normal ≡ false)
          × ((list_answer working result a).result ≡ result)
      go (answered (rewritten ws n q)) h = absurd (omega arith)
      go (refused r) h = (refl, refl, refl, refl)

  call_zeros : (list_call rules subject number working result).working ≡ replicate (length working) 0
  unfolding list_call
  call_zeros = go (list_runs rules subject number (length working) (length result))
    where
      go : (a : Answer Rewritten) → (list_answer working result a).working ≡ replicate (length working) 0
      go (answered (rewritten ws n q)) = refl
      go (refused r) = refl

-- ---- The table of the last plan, and what each plan keeps

plans_last : (room : ℕ) (t : Term) (us : List Term) (ws : List ℕ) → plans_for room (t ∷ us) ≡ answered ws → result_for room (last_of t us) ≡ answered ws
plans_last room t [] ws e = e
plans_last room t (u ∷ us) ws e = plans_last room u us ws (with_is (result_for room t) _ ws e).2

own_table : (room : ℕ) (t : Term) (ws : List ℕ) → result_for room t ≡ answered ws → result_for room t ≡ answered (table_of t)
own_table room t ws e = e ∙ ap answered (result_within room t ws e).1

plans_within : (room : ℕ) (t : Term) (us : List Term) (ws : List ℕ) → plans_for room (t ∷ us) ≡ answered ws → (k : ℕ) (a : Term) → get_elem? (t ∷ us) k ≡ some a
    → result_for room a ≡ answered (table_of a)
plans_within room t [] ws e zero a q = let p : a ≡ t = cc in rw p (own_table room t ws e)
plans_within room t [] ws e (suc k) a q = never (cc)
plans_within room t (u ∷ us) ws e zero a q =
    let p : a ≡ t = cc in
    let b = with_is (result_for room t) _ ws e in
    rw p (own_table room t b.0 b.1)
plans_within room t (u ∷ us) ws e (suc k) a q = plans_within room u us ws (with_is (result_for room t) _ ws e).2 k a q

is_none_exactly : {A : Type 0} (o : Option A) → (is_none o ≡ true) ↔ (o ≡ none)
is_none_exactly none = (λ e. refl, λ e. refl)
is_none_exactly (some a) = (λ e. never (cc), λ e. never (cc))

-- what an accepted plan's rewriting answers
record Answers (cs : List Program) (t : Term) (number room : ℕ) (ws : List ℕ) (n : ℕ) (q : Bool) : Type 0 where
  all : plans_for room (t ∷ behind cs number t) ≡ answered ws
  last : result_for room (last_plan cs number t) ≡ answered ws
  count : n + 1 ≡ length (plans cs number t)
  flag : q ≡ is_none (once cs (last_plan cs number t))

rewrites_answers : (cs : List Program) (t : Term) (number room : ℕ) (ws : List ℕ) (n : ℕ) (q : Bool) → rewrites cs t number room ≡ answered (rewritten ws n q)
    → Answers cs t number room ws n q
unfolding rewrites
rewrites_answers cs t number room ws n q e =
    let a = with_is (plans_for room (plans cs number t)) _ (rewritten ws n q) e in
    let f = a.2 in
    let x : a.0 ≡ ws = cc in
    let y : n ≡ length (plans cs number t) - 1 = cc in
    let z : q ≡ is_none (once cs (last_plan cs number t)) = cc in
    let b = plans_behind cs number t in
    let w : plans_for room (t ∷ behind cs number t) ≡ answered ws = ap (plans_for room) (sym b) ∙ a.1 ∙ ap answered x in
    let c = (plans_count cs number t).0 in
    record {
      all = w;
      last = ap (λ (l : List Term). result_for room (last_of t l)) b ∙ plans_last room t (behind cs number t) ws w;
      count = omega arith;
      flag = z;
    }

-- ---- A call that is done

module _ (rules subject : List ℕ) (number : ℕ) (working result : List ℕ) (e : (list_call rules subject number working result).number ≡ 0) where
  -- nothing was refused
  record Done : Type 0 where
    table : List ℕ
    count : ℕ
    flag : Bool
    runs : list_runs rules subject number (length working) (length result) ≡ answered (rewritten table count flag)
    whole : list_call rules subject number working result ≡ list_answer working result (answered (rewritten table count flag))

  call_done : Done
  unfolding list_call
  call_done = go (list_runs rules subject number (length working) (length result)) refl e
    where
      go : (a : Answer Rewritten) → list_runs rules subject number (length working) (length result) ≡ a → (list_answer working result a).number ≡ 0 → Done
      go (answered (rewritten ws n q)) r e = record { table = ws; count = n; flag = q; runs = r; whole = ap (list_answer working result) r }
      go (refused r) q e = absurd (omega (arith, not_done_lem r))

  abbrev d : Done
  d = call_done

  runs_given : (cs : List Program) × (t : Term) × ListGiven rules subject cs t
      × (rewrites cs t number (length result) ≡ answered (rewritten d.table d.count d.flag))
  unfolding list_runs
  runs_given =
      let x = rewritten d.table d.count d.flag in
      let a = unless_is (leb (length (listed rules)) rule_limit && leb number rewrite_limit) _ _ x d.runs in
      let b = unless_is (leb list_working_words (length working)) _ _ x a.1 in
      let c = with_is (rules_in rules) _ x b.1 in
      let s = with_is (subject_in subject) _ x c.2 in
      (c.0, s.0, record { good = c.1; subjects = s.1 }, s.2)

  call_given : (cs : List Program) × (t : Term) × ListGiven rules subject cs t
  call_given = let r = runs_given in (r.0, r.1, r.2)

  module _ (cs : List Program) (t : Term) (g : ListGiven rules subject cs t) where
    -- with the programs and the plan at hand
    answers : Answers cs t number (length result) d.table d.count d.flag
    answers =
        let r = runs_given in
        let p : r.0 ≡ cs = answered_is (sym r.2.good ∙ g.good) in
        let q : r.1 ≡ t = answered_is (sym r.2.subjects ∙ g.subjects) in
        rewrites_answers cs t number (length result) d.table d.count d.flag
        (ap (λ (c : List Program). rewrites c t number (length result)) (sym p) ∙ ap (λ (u : Term). rewrites r.0 u number (length result)) (sym q) ∙ r.3)
      where
        answered_is : {A : Type 0} {x y : A} → answered x ≡ answered y → x ≡ y
        answered_is e = cc

    named : Named t
    named = subject_named subject t g.subjects

    step_named : (a b : Term) → Named a → once cs a ≡ some b → Named b
    step_named a b n f = once_named cs (rules_obey rules cs g.good) a b f n

    call_carries : Carries cs t rules subject number working result
    call_carries =
        let k = d.whole in
        let l = last_plan cs number t in
        let w = (result_within (length result) l d.table answers.last).1 in
        let i = is_none_exactly (once cs l) in
        let j = normal_exactly cs l (rules_obey rules cs g.good) in
        let f = ap (λ (a : ListAnswer). a.normal) k ∙ answers.flag in
        record {
          plan = ap (λ (a : ListAnswer). a.result) k ∙ ap (at_front result) w;
          words = ap (λ (a : ListAnswer). a.words) k ∙ ap length w;
          again = ap (λ (a : ListAnswer). subject_in (take a.words a.result)) k
              ∙ left_again result l d.table (last_keeps cs Named step_named number t named) answers.last;
          made = ap (λ (a : ListAnswer). a.rewrites + 1) k ∙ answers.count;
          normal = (λ y. j.0 (i.0 (sym f ∙ y)), λ y. f ∙ i.1 (j.1 y));
        }

    call_keeps : (k : ℕ) (a : Term) → get_elem? (plans cs number t) k ≡ some a
        → (result_for (length result) a ≡ answered (table_of a)) × (subject_in (table_of a) ≡ answered a)
    call_keeps k a q =
        let b = plans_behind cs number t in
        let l = plans_within (length result) t (behind cs number t) d.table answers.all k a (ap (λ (ts : List Term). get_elem? ts k) (sym b) ∙ q) in
        (l, named_subject (length result) a (table_of a) (plans_keep cs Named step_named number t named k a q) l)

-- ---- The records

pub list_demand_1 : ListDemand1
list_demand_1 = record { order = list_order_lem; never_twelve = never_twelve_lem; leaves = call_leaves; zeros = call_zeros }

pub list_done : ListDone
list_done = record {
  given = call_given;
  carries = λ rules subject number working result cs t g e. call_carries rules subject number working result e cs t g;
  first = λ cs number t. ap (λ (ts : List Term). get_elem? ts 0) (plans_behind cs number t);
  each = plans_once;
  most = λ cs number t. (plans_count cs number t).1;
  early = stopped_early;
  rewrites = rewrite_by_exactly;
  ends = λ rules cs e a. normal_exactly cs a (rules_obey rules cs e);
  keeps = λ rules subject number working result cs t g e. call_keeps rules subject number working result e cs t g;
}

-- no plan of compiled rules' sequence has a metavariable
plans_plain : (rules : List Rule) → AllAccepted rules → (subject : List ℕ) (t : Term) → subject_in subject ≡ answered t
    → (number k : ℕ) (a : Term) → get_elem? (plans (programs_of rules) number t) k ≡ some a → metas a ≡ []
plans_plain rules h subject t s number =
    plans_keep (programs_of rules) (λ a. metas a ≡ []) (λ a b p e. rewrite_plain rules h a p b e) number t (subject_in_held subject t s).1

pub list_demand_2 : ListDemand2
list_demand_2 = record {
  good = compiled_rules;
  rewrites = λ rules h subject t s number k a e. rewrite_exactly rules h a (plans_plain rules h subject t s number k a e);
  one_rewrite = λ rules h a p b c x y. some-injective b c (sym (once_of_rewrite rules h a p b x) ∙ once_of_rewrite rules h a p c y);
  no_match = λ rules h subject t s number k a e. none_exactly rules h a (plans_plain rules h subject t s number k a e);
  only_one = turns_only_one;
}

pub list_demand_3 : ListDemand3
list_demand_3 = record {
  steps = λ rules cs e. steps_everywhere cs (rules_obey rules cs e);
  ends = λ rules cs e a n i u c s g k.
      ⊎_elim (λ f. absurd (k f)) (λ x. (x.0, x.1, x.3, x.2)) (obeying_finishes c u (obeys_at cs i c (rules_obey rules cs e) g));
  free = λ rules cs e. once_free cs (rules_obey rules cs e);
  all_free = λ rules cs e number t k a g.
      let InSubject : ℕ → Type 0 = λ x. T (member (freevars t) x) in
      every_of_free (member (freevars t)) 0 a
      (plans_keep cs (AllFree InSubject) (λ a b p q. once_all_free cs (rules_obey rules cs e) a b q InSubject p) number t (free_in_itself t) k a g);
}
