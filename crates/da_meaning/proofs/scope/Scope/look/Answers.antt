use Rattle.std.proofs.Common.{◌∙◌, ap}
use Rattle.da_lang.specs.Scopes.{look}
use Rattle.da_meaning.proofs.ScopeIndexLaws.{after_index, looked}
use Rattle.da_meaning.proofs.scope.Scope.look.Goals as goal

pub returns : goal.returns
returns c =
    let s = c.self.inside in
    looked s.names s.parts s.index s.indexed _ c.args.name.now _ _ c.self.invariant (after_index c.as_slice.result.now s.names s.indexed c.as_slice.ensures) c.meaning_at-outer.ensures c.look_through.ensures
    ∙ ap (λ names. look names c.args.name.now) c.self.view_is
