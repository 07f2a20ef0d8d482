use Rattle.rendezvous.specs.Picks.{topic_of}
use Rattle.rendezvous.proofs.Keeping.{convenes}
use Rattle.rendezvous.proofs.steps.convene.Goals as goal

pub store-requires : goal.store-requires
store-requires g c = (c.requires.seat.at_table, c.requires.seat.some_word, convenes _ _ _ c.args.seat.now.me (topic_of g.J.Picked.topic) c.args.places c.requires.convenes c.requires.hand c.requires.some c.requires.room)
