use Rattle.da_core.proofs.MessageForms.{found_parts}
use Rattle.da_core.proofs.messages.are_declared_parts.Goals as goal

pub returns-in-Some : goal.returns-in-Some
returns-in-Some c = found_parts _ _ _ _ _ _ _ c.in-len1-up.len_at_least c.first-item.is c.in-Text.is c.in-Some.ensures c.as_slice.ensures c.are_of.ensures
