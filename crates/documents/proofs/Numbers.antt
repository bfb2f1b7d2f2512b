-- What an answer that is no refusal says: a table's term within its limits, an accepted subject, an accepted rule; and that each of these is
-- answered. A refusal travels up unchanged, so a chain of tests is taken apart from its head.
use mathlib.Core.Path.{◌≡◌, refl, ap, ◌∙◌}
use Prim.Native.Nat.{ℕ, ◌*◌, ◌≤◌}
use native.Mathlib.Omega.{arith}
use mathlib.Core.Bool.{Bool, true, false, ◌&&◌}
use mathlib.Core.Option.{Option, none, some}
use mathlib.Core.List.{List, [], ◌∷◌}
use lib.Dec.{T, leb}
use lib.ListN.{length}
use borrow.Author.Tests.{leb-true, le-leb}
use Rattle.documents.specs.declared.Refusal.{Refusal}
use Rattle.documents.specs.Limits.{side_limit, plan_limit, depth_limit, metavariable_limit}
use Rattle.documents.specs.Lists.{is_empty}
use Rattle.documents.specs.Terms.{Term}
use Rattle.documents.specs.Tables.{table_of, Fits, term_in, nodes, depth}
use Rattle.documents.specs.Rules.{metas, simple, is_symbol, closed, contains, crs_rule}
use Rattle.documents.specs.Translation.{symbol_table}
use Rattle.documents.specs.Numbers.{Answer, answered, refused, unless, or_refuse, with, table_in, subject_in, rule, rule_in}
use Rattle.documents.proofs.Lists.{never, on, of_and, both_true}
use Rattle.documents.proofs.Tables.{term_in_table_of, table_of_term_in, length_table_of}

-- ---- Chains of tests

pub unless_is : {A : Type 0} (q : Bool) (r : Refusal) (o : Answer A) (a : A) → unless q r o ≡ answered a → (q ≡ true) × (o ≡ answered a)
unless_is true r o a e = (refl, e)
unless_is false r o a e = never (cc)

pub or_refuse_is : {A : Type 0} (o : Option A) (r : Refusal) (a : A) → or_refuse o r ≡ answered a → o ≡ some a
or_refuse_is none r a e = never (cc)
or_refuse_is (some b) r a e = let q : b ≡ a = cc in rw q

pub with_is : {A B : Type 0} (o : Answer A) (f : A → Answer B) (b : B) → with o f ≡ answered b → (a : A) × (o ≡ answered a) × (f a ≡ answered b)
with_is (answered a) f b e = (a, refl, e)
with_is (refused r) f b e = never (cc)

-- ---- A table within its limits

pub record Held (limit : ℕ) (ws : List ℕ) (t : Term) : Type 0 where
  pub table : table_of t ≡ ws
  pub fits : Fits t
  pub small : nodes t ≤ limit
  pub shallow : depth t ≤ depth_limit

pub table_in_held : (limit : ℕ) (ws : List ℕ) (t : Term) → table_in limit ws ≡ answered t → Held limit ws t
unfolding table_in
table_in_held limit ws t e =
    let a = unless_is (leb (length ws) (2 * limit)) _ _ t e in
    let b = with_is (or_refuse (term_in ws) _) _ t a.1 in
    let c = unless_is (leb (depth b.0) depth_limit) _ _ t b.2 in
    let q : b.0 ≡ t = cc c.1 in
    let d = table_of_term_in ws t (or_refuse_is (term_in ws) _ b.0 b.1 ∙ ap some q) in
    let l = leb-true (length ws) (2 * limit) a.0 in
    record {
      table = d.0;
      fits = d.1;
      small = omega (arith, length_table_of t, ap length d.0);
      shallow = leb-true (depth t) depth_limit (rw q at c.0);
    }

pub held_table_in : (limit : ℕ) (t : Term) → Fits t → nodes t ≤ limit → depth t ≤ depth_limit → table_in limit (table_of t) ≡ answered t
unfolding table_in
held_table_in limit t f n d =
    rw (le-leb (length (table_of t)) (2 * limit) (omega (arith, length_table_of t)), term_in_table_of t f, le-leb (depth t) depth_limit d)

-- ---- An accepted subject

pub empty_is : {A : Type 0} (l : List A) → is_empty l ≡ true → l ≡ []
empty_is [] e = refl
empty_is (a ∷ l) e = never (cc)

pub subject_in_held : (ws : List ℕ) (t : Term) → subject_in ws ≡ answered t → Held plan_limit ws t × (metas t ≡ [])
unfolding subject_in
subject_in_held ws t e =
    let a = with_is (table_in plan_limit ws) _ t e in
    let b = unless_is (is_empty (metas a.0)) _ _ t a.2 in
    let q : a.0 ≡ t = cc b.1 in
    (table_in_held plan_limit ws t (a.1 ∙ ap answered q), empty_is (metas t) (rw q at b.0))

pub held_subject_in : (t : Term) → Fits t → nodes t ≤ plan_limit → depth t ≤ depth_limit → metas t ≡ [] → subject_in (table_of t) ≡ answered t
unfolding subject_in
held_subject_in t f n d m = rw (held_table_in plan_limit t f n d, m)

-- ---- An accepted rule

pub record Accepted (left right : List ℕ) (l r : Term) : Type 0 where
  pub left_held : Held side_limit left l
  pub right_held : Held side_limit right r
  -- it is one of 004's
  pub crs : T (crs_rule l r)
  pub few : length (symbol_table l) ≤ metavariable_limit

-- 004's conditions, one by one
pub record Conditions (l r : Term) : Type 0 where
  pub known : contains (metas r) (metas l) ≡ true
  pub root : is_symbol l ≡ true
  pub left_closed : closed l ≡ true
  pub right_closed : closed r ≡ true
  pub left_simple : simple l ≡ true

pub conditions : (l r : Term) → T (crs_rule l r) → Conditions l r
conditions l r h =
    let a = of_and (contains (metas r) (metas l) && is_symbol l && closed l && closed r) (simple l) h in
    let b = of_and (contains (metas r) (metas l) && is_symbol l && closed l) (closed r) a.0 in
    let c = of_and (contains (metas r) (metas l) && is_symbol l) (closed l) b.0 in
    let d = of_and (contains (metas r) (metas l)) (is_symbol l) c.0 in
    record { known = on _ d.0; root = on _ d.1; left_closed = on _ c.1; right_closed = on _ b.1; left_simple = on _ a.1 }

pub crs_of_conditions : (l r : Term) → Conditions l r → T (crs_rule l r)
crs_of_conditions l r c = rw (c.known, c.root, c.left_closed, c.right_closed, c.left_simple) tt

met : (l r l' r' : Term) → l' ≡ l → r' ≡ r → contains (metas r') (metas l') ≡ true → is_symbol l' ≡ true → closed l' ≡ true → closed r' ≡ true → simple l' ≡ true
    → Conditions l r
met l r l' r' p q a b c d e = rw (← p, ← q) (record { known = a; root = b; left_closed = c; right_closed = d; left_simple = e })

pub rule_in_accepted : (left right : List ℕ) (l r : Term) → rule_in left right ≡ answered (rule l r) → Accepted left right l r
unfolding rule_in
rule_in_accepted left right l r e =
    let a = with_is (table_in side_limit left) _ (rule l r) e in
    let b = with_is (table_in side_limit right) _ (rule l r) a.2 in
    let c = unless_is (is_symbol a.0) _ _ (rule l r) b.2 in
    let d = unless_is (closed a.0 && closed b.0) _ _ (rule l r) c.1 in
    let f = unless_is (simple a.0) _ _ (rule l r) d.1 in
    let g = unless_is (contains (metas b.0) (metas a.0)) _ _ (rule l r) f.1 in
    let h = unless_is (leb (length (symbol_table a.0)) metavariable_limit) _ _ (rule l r) g.1 in
    let p : a.0 ≡ l = cc h.1 in
    let q : b.0 ≡ r = cc h.1 in
    let k = both_true (closed a.0) (closed b.0) d.0 in
    record {
      left_held = table_in_held side_limit left l (a.1 ∙ ap answered p);
      right_held = table_in_held side_limit right r (b.1 ∙ ap answered q);
      crs = crs_of_conditions l r (met l r a.0 b.0 p q g.0 c.0 k.0 k.1 f.0);
      few = leb-true (length (symbol_table l)) metavariable_limit (rw p at h.0);
    }

pub accepted_rule_in : (left right : List ℕ) (l r : Term) → Accepted left right l r → rule_in left right ≡ answered (rule l r)
unfolding rule_in
accepted_rule_in left right l r a =
    let c = conditions l r a.crs in
    rw (
      ← a.left_held.table,
      ← a.right_held.table,
      held_table_in side_limit l a.left_held.fits a.left_held.small a.left_held.shallow,
      held_table_in side_limit r a.right_held.fits a.right_held.small a.right_held.shallow,
      c.root,
      c.left_closed,
      c.right_closed,
      c.left_simple,
      c.known,
      le-leb (length (symbol_table l)) metavariable_limit a.few,
    )
