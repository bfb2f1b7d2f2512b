-- The table of a whole left side, for the compiler: entered in a table without rows, it holds the rows of 004's symbol table, and only a seventeenth
-- row is refused.
use mathlib.Core.Path.{◌≡◌, sym, ◌∙◌}
use Prim.Native.Nat.{ℕ, suc, ◌≤◌, ◌<◌}
use native.Mathlib.Omega.{arith}
use mathlib.Core.Option as Math
use mathlib.Core.Option.{none, some}
use Rattle.std.specs.Prelude.{Option, None}
use mathlib.Core.List.{List, []}
use lib.ListN.{length}
use Rattle.documents.specs.Limits.{metavariable_limit}
use Rattle.documents.specs.Terms.{Sort, Tm, Var, Sym, Meta, Abst, Nil, Cons, Term, len}
use Rattle.documents.specs.Translation.{Row, row, Located, lookup, unvar, enter, update, symbol_table}
use Rattle.kahrs.proofs.Simple.{Simple, update_arguments}
use Rattle.compiled.specs.Length.{left_words}
use Rattle.tables.specs.Parts.{word_count}
use Rattle.symbols.specs.declared.Entered.{Entered}
use Rattle.symbols.specs.Rows.{Low}
use Rattle.symbols.specs.declared.table.SymbolTable.{SymbolTable}
use Rattle.symbols.specs.Table.{rows_of}
use Rattle.symbols.specs.Entries.{some_entered, Enters}
use Rattle.symbols.proofs.Entering.{entered_words, entered_full}

-- ---- From no rows on

-- it holds the symbol table
pub record Made (l : Term) (table : SymbolTable) (read more : ℕ) : Type 0 where
  pub entries : rows_of table ≡ symbol_table l
  pub few : length (symbol_table l) ≤ metavariable_limit
  pub passed : read ≡ word_count l
  pub counts : more ≡ left_words 0 l []

module _ {l : Term} {rows : List Row} {new : SymbolTable} {r : Option Entered} (none : rows ≡ []) (e : Enters 0 l rows new r) where
  pub table_made : {read more : ℕ} → r ≡ some_entered read more → Made l new read more
  table_made {read} {more} f =
      let g : Enters 0 l [] new r = rw none at e in
      let (fit, q, m) = entered_words 0 l [] read more (sym f ∙ g.answer) in
      record { entries = g.entries fit; few = fit; passed = q; counts = m }

  pub table_full : r ≡ None → metavariable_limit < length (symbol_table l)
  table_full f =
      let g : Enters 0 l [] new r = rw none at e in
      entered_full 0 l [] (sym f ∙ g.answer)

-- ---- Low rows

low_enter : (o : Math.Option Located) (z k b : ℕ) (l : List ℕ) (rows : List Row) → b < 64 → Low rows → Low (enter o (row z k b l) rows)
low_enter none z k b l rows h p = (h, p)
low_enter (some e) z k b l rows h p = p

pub low_update : {s : Sort} (n : ℕ) (t : Tm s) (rows : List Row) → n < 64 → Simple n t → Low rows → Low (update n t rows)
low_update n (Var x) rows h s p = p
low_update n (Sym f ts) rows h s p = low_update n ts rows h s p
low_update n (Meta z ts) rows h s p =
    rw (update_arguments n ts s.0 s.1) (low_enter (lookup z (len ts) rows) z (len ts) n (unvar ts) rows h p)
low_update n (Abst t) rows h s p = let k = s.0 in low_update (suc n) t rows (omega arith) s.1 p
low_update n Nil rows h s p = p
low_update n (Cons t ts) rows h s p = low_update n ts (update n t rows) h s.1 (low_update n t rows h s.0 p)

pub low_table : (l : Term) → Simple 0 l → Low (symbol_table l)
low_table l s = low_update 0 l [] (omega arith) s tt
