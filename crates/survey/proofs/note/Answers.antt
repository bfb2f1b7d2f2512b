-- `note` meets its contract: of an accepted subject the walk answers with the nodes, and has noted their places.
use Rattle.survey.proofs.Noting.{short, noted}
use Rattle.survey.proofs.note.Goals as goal

pub lay-nodes-requires-clause-short : goal.lay-nodes-requires-clause-short
lay-nodes-requires-clause-short c = short _ c.requires.0

pub returns : goal.returns
returns c = noted _ c.requires.0 c.lay-nodes.ensures
