use Rattle.untyped_laws.specs.Laws.{By}
use Rattle.untyped_laws.proofs.LimitsAlike.{limits_same}
use Rattle.untyped_laws.proofs.NamesAlike.{names_same}
use Rattle.untyped_laws.proofs.PutLaws.{put_resolves, put_names, put_limits}
use Rattle.untyped_laws.proofs.ResolvesAlike.{tree_resolves}
use Rattle.untyped_laws.proofs.differ.only_types_differ.Goals as goal

pub returns-clause-resolve : goal.returns-clause-resolve
returns-clause-resolve c = λ related. tree_resolves (By related)

pub returns-clause-names : goal.returns-clause-names
returns-clause-names c = λ related. names_same (By related)

pub returns-clause-limits : goal.returns-clause-limits
returns-clause-limits c = λ related. limits_same (By related)

pub returns-clause-put_resolves : goal.returns-clause-put_resolves
returns-clause-put_resolves c = put_resolves

pub returns-clause-put_names : goal.returns-clause-put_names
returns-clause-put_names c = put_names

pub returns-clause-put_limits : goal.returns-clause-put_limits
returns-clause-put_limits c = put_limits
