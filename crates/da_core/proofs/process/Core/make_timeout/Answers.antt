use Rattle.da_core.proofs.process.Core.make_timeout.Goals as goal

pub run_move-requires : goal.run_move-requires
run_move-requires c = let (w, s) = c.requires c.if-self.false in (w, _, s, c.in-Some.ensures w s)
