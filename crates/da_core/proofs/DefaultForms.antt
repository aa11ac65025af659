-- The default of a type, by its form.
use Rattle.da_lang.proofs.WorldLaws.{default-Int, default-Bool, default-Text, default-Proc, default-Tuple, default-Set}

pub ruleset default_rules = (default-Int, default-Bool, default-Text, default-Proc, default-Tuple, default-Set)
