-- `reedbiscuit::reed_watch` meets document 01's call: the struct says what the watcher's answer says.
use Rattle.reedbiscuit.proofs.Given.{watch_given_lem}
use Rattle.reedbiscuit.proofs.reed_watch.Goals as goal

pub returns : goal.returns
returns c = rw (c.from.ensures, c.watch.ensures) (watch_given_lem _ _ _)
