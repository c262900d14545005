use Rattle.cgs_worker.proofs.joined.board_of.Goals as goal

pub returns-in-Other-clause-complete : goal.returns-in-Other-clause-complete
returns-in-Other-clause-complete g c = c.run_board_alone.ensures.for_more c.args.workers c.requires.some_worker
