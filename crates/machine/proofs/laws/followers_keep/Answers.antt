use Rattle.machine.proofs.Following.{sessions_keep, followers_keep}
use Rattle.machine.proofs.laws.followers_keep.Goals as goal

pub returns-clause-sessions : goal.returns-clause-sessions
returns-clause-sessions g c = sessions_keep g.B.Follower.stands

pub returns-clause-calls : goal.returns-clause-calls
returns-clause-calls g c = followers_keep g.B.Follower.stands
