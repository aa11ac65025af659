use Rattle.std.proofs.Common.{◌∙◌, ap}
use Rattle.da_lang.specs.Scopes.{look}
use Rattle.da_bodies.proofs.ScopeLaws.{looked}
use Rattle.da_bodies.proofs.scope.Names.look.Goals as goal

pub returns : goal.returns
returns c = looked c.self.inside.roles c.self.inside.entries c.self.invariant c.role_at.result c.args.name.now c.role_at.ensures ∙ ap (λ s. look s c.args.name.now) c.self.view_is
