use Rattle.quant_norm.proofs.nodes.Nodes.into_list.Goals as goal

pub returns : goal.returns
returns c = c.self.view_is
