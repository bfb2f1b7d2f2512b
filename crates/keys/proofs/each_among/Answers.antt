-- `each_among` meets its contract: the library's `all` and `contains` ask what `every` and `member` do.
use mathlib.Core.Path.{◌∙◌}
use lib.Dec.{eqb}
use borrow.Author.Rules.{rules}
use Rattle.std.proofs.Common.{tests}
use Rattle.std.specs.List.{list_any}
use Rattle.std.proofs.lemmas.Iterator.{YieldsList-from_slice}
use Rattle.std.proofs.lemmas.Iterator.Search.{all_from_yields_List}
use Rattle.keys.proofs.Among.{each_sought}
use Rattle.keys.proofs.each_among.Goals as goal

pub returns : goal.returns
returns c =
    let s = c.args in
    all_from_yields_List (λ x. list_any (λ y. eqb y x) s.left.now) _ _ _ c.all.ensures.ran (YieldsList-from_slice s.right.now (cc)) (λ x b q k. search (rules, tests))
    ∙ each_sought s.left.now s.right.now
