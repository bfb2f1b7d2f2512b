-- What compile answers, by the way that the code takes: each refusal in its turn, and at the end the code. What is asked of the sides first is asked
-- by 01's chain of refusals too, so a chain that went through leaves only 8, 9 and 10.
use mathlib.Core.Path.{◌≡◌, refl, sym, ap, ap₂, ◌∙◌}
use Prim.Native.Nat.{ℕ, ◌≤◌, ◌<◌}
use native.Mathlib.Omega.{arith}
use mathlib.Core.Bool.{Bool, true, false, ◌&&◌, cond}
use mathlib.Core.List.{List}
use lib.Dec.{leb}
use lib.ListN.{length}
use borrow.Author.Tests.{le-leb, lt-leb}
use Rattle.documents.specs.declared.Refusal.{Refusal}
use Rattle.documents.specs.Limits.{side_limit, metavariable_limit, code_limit}
use Rattle.documents.specs.Terms.{Term}
use Rattle.documents.specs.Tables.{nodes}
use Rattle.documents.specs.Rules.{metas, simple, is_symbol, closed, contains}
use Rattle.documents.specs.Instructions.{words}
use Rattle.documents.specs.Translation.{symbol_table, compile}
use Rattle.documents.specs.Numbers.{Answer, answered, refused, unless, with, table_in, Rule, rule, rule_in, code_for}
use Rattle.documents.specs.Calls.{at_front, compile_answer, compile_call}
use Rattle.documents.specs.declared.Refusal.TheVariants as refusal
use Rattle.documents.proofs.Lists.{never, on, T_of, of_and}
use Rattle.documents.proofs.Tables.{length_table_of}
use Rattle.documents.proofs.Numbers.{unless_is, with_is, table_in_held, Held, crs_of_conditions, Accepted, accepted_rule_in}
use Rattle.kahrs.proofs.Simple.{Simple, simple_of, below_of_closed}
use Rattle.compiled.specs.Length.{code_length}
use Rattle.compiled.proofs.Length.{length_accepted}
use Rattle.compiled.proofs.WordCount.{compiled_fits}
use Rattle.tables.specs.Answers.{sized}
use Rattle.tables.specs.Parts.{front, Begins}
use Rattle.tables.proofs.Accepted.{AcceptedTable, accepted_table}
use Rattle.symbols.specs.Rows.{rows_in}
use Rattle.symbols.specs.Entries.{all_found}
use Rattle.symbols.proofs.Asked.{found_table}
use Rattle.symbols.specs.declared.table.SymbolTable.{SymbolTable}
use Rattle.symbols.specs.Table.{rows_of}
use Rattle.symbols.proofs.Whole.{Made}
use Rattle.generator.specs.Written.{Fits}
use Rattle.std.specs.Prelude.{Ok, Err}
use Rattle.compiler.specs.Answers.{given, sides_in, sides_answer, Sides, crowded}

-- ---- The sides: left 2, 1, 3; right 2, 1, 3; then 5, 6, 7

-- a refused table is what is answered
with_refused : (a : Answer Term) (f : Term → Answer Rule) (r : Refusal) → Err r ≡ sized a → sides_answer (with a f) ≡ Err r
with_refused (answered l) f r e = never (cc)
with_refused (refused w) f r e = sym e

pub left_refused : (left right : List ℕ) (r : Refusal) → Err r ≡ sized (table_in side_limit left) → sides_answer (sides_in left right) ≡ Err r
unfolding sides_in
left_refused left right r e = with_refused (table_in side_limit left) _ r e

module _ {left : List ℕ} {n : ℕ} (a : AcceptedTable side_limit left n) where
  pub right_refused : (right : List ℕ) (r : Refusal) → Err r ≡ sized (table_in side_limit right) → sides_answer (sides_in left right) ≡ Err r
  unfolding sides_in
  right_refused right r e = rw a.term (with_refused (table_in side_limit right) _ r e)

  module _ {right : List ℕ} {m : ℕ} (b : AcceptedTable side_limit right m) where
    pub sides_no_symbol : is_symbol (front left) ≡ false → sides_answer (sides_in left right) ≡ Err refusal.LeftRootNoSymbol
    unfolding sides_in
    sides_no_symbol e = rw (a.term, b.term, e) refl

    module _ (s : is_symbol (front left) ≡ true) where
      pub sides_open : closed (front left) && closed (front right) ≡ false → sides_answer (sides_in left right) ≡ Err refusal.FreeVariable
      unfolding sides_in
      sides_open e = rw (a.term, b.term, s, e) refl

      module _ (k : closed (front left) && closed (front right) ≡ true) where
        pub sides_not_simple : simple (front left) ≡ false → sides_answer (sides_in left right) ≡ Err refusal.ArgumentsNotDistinctVariables
        unfolding sides_in
        sides_not_simple e = rw (a.term, b.term, s, k, e) refl

        pub sides_simple : simple (front left) ≡ true → sides_answer (sides_in left right) ≡ Ok n
        unfolding sides_in
        sides_simple e = rw (a.term, b.term, s, k, e) (ap Ok (sym a.count))

-- ---- Sides that are accepted so far

answered_sides : (o : Answer Rule) (n : ℕ) → Ok n ≡ sides_answer o → (p : Rule) × (o ≡ answered p)
answered_sides (answered p) n e = (p, refl)
answered_sides (refused w) n e = never (cc)

pub refused_sides : (o : Answer Rule) (w : Refusal) → Err w ≡ sides_answer o → o ≡ refused w
refused_sides (answered (rule l r)) w e = never (cc)
refused_sides (refused v) w e = let q : w ≡ v = cc in rw q

-- a table's term is the one that it begins with
record Fronted (ws : List ℕ) (t : Term) : Type 0 where
  pub begins : Begins 1 ws
  pub is_front : t ≡ front ws
  pub is_held : Held side_limit ws (front ws)

fronted : (ws : List ℕ) (t : Term) → table_in side_limit ws ≡ answered t → Fronted ws t
fronted ws t e =
    let a = accepted_table side_limit ws (nodes t) (sym (ap sized e)) in
    let q : t ≡ front ws = cc a.term in
    record { begins = a.begins; is_front = q; is_held = table_in_held side_limit ws (front ws) a.term }

sides_of : (left right : List ℕ) (p : Rule) → sides_in left right ≡ answered p → Sides left right
unfolding sides_in
sides_of left right p e =
    let a = with_is (table_in side_limit left) _ p e in
    let b = with_is (table_in side_limit right) _ p a.2 in
    let c = unless_is (is_symbol a.0) _ _ p b.2 in
    let d = unless_is (closed a.0 && closed b.0) _ _ p c.1 in
    let f = unless_is (simple a.0) _ _ p d.1 in
    let x = fronted left a.0 a.1 in
    let y = fronted right b.0 b.1 in
    let q : p ≡ rule (front left) (front right) = (let z : rule a.0 b.0 ≡ p = cc f.1 in sym z ∙ ap₂ rule x.is_front y.is_front) in
    record {
      left_begins = x.begins;
      right_begins = y.begins;
      left_held = x.is_held;
      right_held = y.is_held;
      accepted = e ∙ ap answered q;
    }

pub sides_accepted : (left right : List ℕ) (n : ℕ) → Ok n ≡ sides_answer (sides_in left right) → Sides left right
sides_accepted left right n e = let p = answered_sides (sides_in left right) n e in sides_of left right p.0 p.1

-- what is answered to them: 8 or 9, or the rule
abbrev rest : Term → Term → Answer Rule
rest l r =
    unless (contains (metas r) (metas l)) refusal.MetavariableAbsentOnLeft
    (unless (leb (length (symbol_table l)) metavariable_limit) refusal.TooManyMetavariables
    (answered (rule l r)))

-- what accepted sides meet
record Met (left right : List ℕ) : Type 0 where
  pub left_is : table_in side_limit left ≡ answered (front left)
  pub right_is : table_in side_limit right ≡ answered (front right)
  pub root : is_symbol (front left) ≡ true
  pub both_closed : closed (front left) && closed (front right) ≡ true
  pub left_simple : simple (front left) ≡ true

met : {left right : List ℕ} → Sides left right → Met left right
unfolding sides_in
met {left} {right} s =
    let p = rule (front left) (front right) in
    let a = with_is (table_in side_limit left) _ p s.accepted in
    let b = with_is (table_in side_limit right) _ p a.2 in
    let c = unless_is (is_symbol a.0) _ _ p b.2 in
    let d = unless_is (closed a.0 && closed b.0) _ _ p c.1 in
    let f = unless_is (simple a.0) _ _ p d.1 in
    let x : a.0 ≡ front left = cc f.1 in
    let y : b.0 ≡ front right = cc f.1 in
    record {
      left_is = a.1 ∙ ap answered x;
      right_is = b.1 ∙ ap answered y;
      root = ap is_symbol (sym x) ∙ c.0;
      both_closed = ap₂ (λ (l r : Term). closed l && closed r) (sym x) (sym y) ∙ d.0;
      left_simple = ap (λ (t : Term). simple t) (sym x) ∙ f.0;
    }

-- ---- The call

refused_chain : (p q s : Bool) (u v w : Refusal) (a : Rule) (o : Answer Rule) (r : Refusal)
    → unless p u (unless q v (unless s w (answered a))) ≡ refused r → unless p u (unless q v (unless s w o)) ≡ refused r
refused_chain false q s u v w a o r e = e
refused_chain true false s u v w a o r e = e
refused_chain true true false u v w a o r e = e
refused_chain true true true u v w a o r e = never (cc)

rule_refused : (left right : List ℕ) (w : Refusal) → sides_in left right ≡ refused w → rule_in left right ≡ refused w
unfolding sides_in rule_in
rule_refused left right w e = go (table_in side_limit left) (table_in side_limit right) e
  where
    go : (a b : Answer Term)
        → with a (λ l. with b (λ r.
        unless (is_symbol l) refusal.LeftRootNoSymbol
        (unless (closed l && closed r) refusal.FreeVariable
        (unless (simple l) refusal.ArgumentsNotDistinctVariables
        (answered (rule l r)))))) ≡ refused w
        → with a (λ l. with b (λ r.
        unless (is_symbol l) refusal.LeftRootNoSymbol
        (unless (closed l && closed r) refusal.FreeVariable
        (unless (simple l) refusal.ArgumentsNotDistinctVariables
        (rest l r))))) ≡ refused w
    go (refused r) b e = e
    go (answered l) (refused r) e = e
    go (answered l) (answered r) e = refused_chain (is_symbol l) (closed l && closed r) (simple l) _ _ _ (rule l r) (rest l r) w e

pub call_refused : (left right code : List ℕ) (w : Refusal) → Err w ≡ sides_answer (sides_in left right) → given (Err w) code ≡ compile_call left right code
unfolding compile_call
call_refused left right code w e = rw (rule_refused left right w (refused_sides (sides_in left right) w e))

crowded_answer : (q : Bool) (code : List ℕ) (o : Answer Rule) (f : Rule → Answer (List ℕ))
    → given (Err (cond q refusal.TooManyMetavariables refusal.MetavariableAbsentOnLeft)) code
    ≡ compile_answer code (with (unless q refusal.MetavariableAbsentOnLeft (unless false refusal.TooManyMetavariables o)) f)
crowded_answer true code o f = refl
crowded_answer false code o f = refl

held_short : {ws : List ℕ} {t : Term} → Held side_limit ws t → length ws ≤ 512
held_short {ws} {t} h =
    let e = length_table_of t in
    let f = ap (λ (l : List ℕ). length l) h.table in
    let n = h.small in
    omega arith

module _ {left right : List ℕ} (s : Sides left right) where
  rule_rest : rule_in left right ≡ rest (front left) (front right)
  unfolding rule_in
  rule_rest = let m = met s in rw (m.left_is, m.right_is, m.root, m.both_closed, m.left_simple)

  pub call_absent : (code : List ℕ) → contains (metas (front right)) (metas (front left)) ≡ false → given (Err refusal.MetavariableAbsentOnLeft) code ≡ compile_call left right code
  unfolding compile_call
  call_absent code e = rw (rule_rest, e)

  pub call_crowded : (code : List ℕ) → metavariable_limit < length (symbol_table (front left)) → given (Err (crowded (front left) (front right))) code ≡ compile_call left right code
  unfolding compile_call
  call_crowded code h =
      rw (rule_rest, lt-leb (length (symbol_table (front left))) metavariable_limit h)
      (crowded_answer (contains (metas (front right)) (metas (front left))) code (answered (rule (front left) (front right))) (code_for (length code)))

  -- ---- An accepted rule

  module _ (k : contains (metas (front right)) (metas (front left)) ≡ true) (few : length (symbol_table (front left)) ≤ metavariable_limit) where
    pub accepted : Accepted left right (front left) (front right)
    accepted =
        let m = met s in
        let c = of_and (closed (front left)) (closed (front right)) (T_of _ m.both_closed) in
        record {
          left_held = s.left_held;
          right_held = s.right_held;
          crs = crs_of_conditions (front left) (front right) (record { known = k; root = m.root; left_closed = on _ c.0; right_closed = on _ c.1; left_simple = m.left_simple });
          few = few;
        }

    pub length_is : code_length (front left) (front right) ≡ length (words (compile (front left) (front right)))
    length_is = length_accepted left right (front left) (front right) accepted

    pub length_small : code_length (front left) (front right) ≤ code_limit
    length_small = let e = length_is in let h = compiled_fits left right (front left) (front right) accepted in omega arith

    rule_is : rule_in left right ≡ answered (rule (front left) (front right))
    rule_is = accepted_rule_in left right (front left) (front right) accepted

    pub call_short : (code : List ℕ) → length code < code_length (front left) (front right) → given (Err refusal.CodeTableShort) code ≡ compile_call left right code
    unfolding compile_call
    call_short code h = let e = length_is in rw (rule_is, lt-leb (length (words (compile (front left) (front right)))) (length code) (omega arith))

    pub code_fits : {code : List ℕ} → code_length (front left) (front right) ≤ length code → Fits code 0 (words (compile (front left) (front right)))
    code_fits h = let e = length_is in let b = length_small in record { room = omega arith; small = omega arith }

    pub call_done : (code : List ℕ) → code_length (front left) (front right) ≤ length code → {n : ℕ} → n ≡ code_length (front left) (front right)
        → given (Ok n) (at_front code (words (compile (front left) (front right)))) ≡ compile_call left right code
    unfolding compile_call
    call_done code h k = let e = length_is in rw (rule_is, le-leb (length (words (compile (front left) (front right)))) (length code) (omega arith), k ∙ e)

  -- ---- What is asked of the sides' own functions

  pub left_simple_lem : Simple 0 (front left)
  left_simple_lem =
      let m = met s in
      let c = of_and (closed (front left)) (closed (front right)) (T_of _ m.both_closed) in
      let d = s.left_held.shallow in
      simple_of 0 (front left) (T_of _ m.left_simple) (below_of_closed (front left) c.0) (omega arith)

  pub left_short : length left ≤ 512
  left_short = held_short s.left_held

  pub right_short : length right ≤ 512
  right_short = held_short s.right_held

-- ---- The rows of the symbol table, as the code hands them on

pub record Rows (left rows : List ℕ) : Type 0 where
  pub entries : rows_in rows ≡ symbol_table (front left)
  pub few : length rows ≤ 176

pub rows_made : (left : List ℕ) {table : SymbolTable} {read more : ℕ} (rows : List ℕ) → Made (front left) table read more → rows_in rows ≡ rows_of table → length rows ≤ 176 → Rows left rows
rows_made left rows m e h = record { entries = e ∙ m.entries; few = h }

-- what has a row is what stands on the left
pub found_rows : {left rows : List ℕ} (ms : List (ℕ × ℕ)) → Rows left rows → all_found (rows_in rows) ms ≡ contains ms (metas (front left))
found_rows {left} ms r = rw r.entries (found_table (front left) ms)
