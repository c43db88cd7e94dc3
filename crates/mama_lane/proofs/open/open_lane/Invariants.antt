use Rattle.mama_lane.proofs.open.open_lane.Given as goal

abbrev pub ghosts-bind : goal.ghosts-bind
ghosts-bind g a = record { bounds = a.bounds }
