-- `enter` meets its contract: three stores, and the arguments behind them. Together they are the row's words from its place on.
use mathlib.Core.Path.{◌≡◌}
use Prim.Native.Nat.{◌+◌, ◌-◌, ◌≤◌}
use lib.ListN.{length}
use native.Mathlib.Omega.{arith}
use Rattle.documents.specs.Translation.{unvar}
use Rattle.tables.specs.Parts.{terms}
use Rattle.symbols.proofs.Stored.{four_sets, room_left, row_written}
use Rattle.symbols.proofs.table.SymbolTable.enter.Goals as goal

pub overflow_sub-first : goal.overflow_sub-first
overflow_sub-first c = room_left c.args.self.now c.requires.4

pub returns : goal.returns
returns c =
    let s = c.args in
    let t = s.self.now in
    let list = unvar (terms s.count s.arguments.now) in
    let r = room_left t c.requires.4 in
    let e : t.first - 11 + 11 ≡ t.first = omega arith in
    rw (c.put_variables.ensures, four_sets t.words (t.first - 11) s.name s.count s.above list)
    (rw e at (row_written t.words (t.first - 11) s.name s.count s.above list c.requires.2 c.requires.3 (let z : length t.words ≡ 176 = t.size in let i : t.first ≤ 176 = t.within in omega arith)))
