-- What is refused in a body depends on what the names in scope stand for alone.
use Rattle.std.specs.Prelude.{◌≡◌, refl, List, [], ◌∷◌, ◌++◌, flat_map, Some, None}
use Rattle.std.specs.List.{AllByRecursion}
use Rattle.std.proofs.Common.{◌∙◌, ap}
use Rattle.da_lang.specs.declared.refusal.ScopeKind.{ScopeKind}
use Rattle.da_lang.specs.declared.tree.Param.{Param}
use Rattle.da_lang.specs.ClassParts.{Place, InSetup, InRun, InMethod, InHandler, Body}
use Rattle.da_lang.specs.ExprNames.{Role, Local, in_order, taken}
use Rattle.da_lang.specs.NameRules.{doubled, locals_of, patterns_at, scope_refusals, shadowed_params}
use Rattle.da_lang.specs.Scopes.{Scope, at_line, entered, look}
use Rattle.da_lang.specs.StmtNames.{refused_in_body}
use Rattle.da_bodies.proofs.PartLaws.{Steady, in_order-same, pattern_steady}
use Rattle.da_bodies.proofs.SameLook.{SameLook, same_entered}
use Rattle.da_bodies.proofs.StmtLaws.{body_same}

pub flat_map-same : {A B : Type 0} (f g : A → List B) (xs : List A) → ((x : A) → f x ≡ g x) → flat_map f xs ≡ flat_map g xs
flat_map-same f g [] same = refl
flat_map-same f g (x ∷ xs) same = ap (λ ys. ys ++ flat_map f xs) (same x) ∙ ap (λ ys. g x ++ ys) (flat_map-same f g xs same)

patterns_steady : (p : Place) → AllByRecursion Steady (patterns_at p)
patterns_steady InSetup = tt
patterns_steady InRun = tt
patterns_steady (InMethod name) = tt
patterns_steady (InHandler message None labels) = (pattern_steady message, tt)
patterns_steady (InHandler message (Some from) labels) = (pattern_steady message, (pattern_steady from, tt))

pub scope_refusals-same : (s t : Scope Role) (b : Body) → SameLook s t → scope_refusals s b ≡ scope_refusals t b
scope_refusals-same s t b same =
    let params : shadowed_params s b ≡ shadowed_params t b = flat_map-same (λ (p : Param). taken (look s p.name)) (λ (p : Param). taken (look t p.name)) b.params (λ p. ap taken (same.at p.name)) in
    let patterns : in_order (patterns_at b.place) Local s ≡ in_order (patterns_at b.place) Local t = in_order-same (patterns_at b.place) (patterns_steady b.place) Local s t same in
    let rest : refused_in_body b.stmts (entered Local (locals_of b) s) ≡ refused_in_body b.stmts (entered Local (locals_of b) t) =
    body_same b.stmts (entered Local (locals_of b) s) (entered Local (locals_of b) t) (same_entered Local (locals_of b) s t same) in
    ap (λ (ks : List ScopeKind). at_line b.line (ks ++ doubled b ++ in_order (patterns_at b.place) Local s) ++ refused_in_body b.stmts (entered Local (locals_of b) s)) params
    ∙ ap (λ (ks : List ScopeKind). at_line b.line (shadowed_params t b ++ doubled b ++ ks) ++ refused_in_body b.stmts (entered Local (locals_of b) s)) patterns
    ∙ ap (λ rs. at_line b.line (shadowed_params t b ++ doubled b ++ in_order (patterns_at b.place) Local t) ++ rs) rest
