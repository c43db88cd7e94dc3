use Rattle.mama_work.proofs.turning.turn_groups.Given as goal

abbrev pub ghosts-turn_crew : goal.ghosts-turn_crew
ghosts-turn_crew g a = record { has = g.S.Seat.sits a.script.now a.hall.now }
