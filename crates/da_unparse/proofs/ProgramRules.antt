-- The equations of programs' texts, as sets of rules.
use Rattle.std.proofs.Common.{append_assoc}
use Rattle.da_unparse.proofs.ProgramTexts as text

pub ruleset param_rules = (append_assoc, text.param_text-of)

pub ruleset member_rules = (append_assoc, text.member_text-Var, text.member_text-Setup, text.member_text-Run, text.member_text-Method, text.member_text-Receive)

pub ruleset message_rules = (append_assoc, text.message_text-of)

pub ruleset main_line_rules = (append_assoc, text.main_line_text-New)

pub ruleset tree_rules = (append_assoc, text.tree_text-of)
