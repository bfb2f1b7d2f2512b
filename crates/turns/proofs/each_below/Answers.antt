-- `turns::each_below`: 01's test of each is the library's.
use Rattle.std.proofs.Common.{rules, tests, ◌∙◌}
use lib.Dec.{ltb}
use Rattle.std.proofs.lemmas.Iterator.Search.{all_from_yields_List}
use Rattle.std.proofs.lemmas.Iterator.{YieldsList-from_slice}
use Rattle.turns.proofs.Turning.{every_all}
use Rattle.turns.proofs.each_below.Goals as goal

pub returns : goal.returns
returns c =
    all_from_yields_List (λ x. ltb x c.args.d) _ _ _ c.all.ensures.ran (YieldsList-from_slice c.args.list.now (cc)) (λ x b q k. search (rules, tests))
    ∙ every_all c.args.d c.args.list.now
