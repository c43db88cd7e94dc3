use Rattle.mama_play.proofs.playing.play_groups.Goals as goal

pub returns-clause-legal : goal.returns-clause-legal
returns-clause-legal g c = c.play_observed.ensures.legal

pub returns-clause-promised : goal.returns-clause-promised
returns-clause-promised g c = c.play_observed.ensures.promised

pub returns-clause-listeners : goal.returns-clause-listeners
returns-clause-listeners g c = c.play_observed.ensures.listeners

pub returns-clause-groups : goal.returns-clause-groups
returns-clause-groups g c = c.play_observed.ensures.groups
