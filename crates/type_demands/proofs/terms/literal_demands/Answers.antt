use Rattle.std.proofs.Common.{◌≡◌, refl, ◌∙◌, ap, sym, append-nil, ◌++◌, Bool, true, false, if◌then◌else◌}
use Rattle.da_values.specs.declared.value.Value.{Value}
use Rattle.da_values.specs.declared.value.Value.TheVariants as kept
use Rattle.da_values.specs.Narrow.{is_i64, is_narrow}
use Rattle.da_values.specs.Value.{val_of}
use Rattle.da_values.proofs.FoldsAt.{is_narrow_of}
use Rattle.type_table.specs.declared.scheme.Scheme.TheVariants as s
use Rattle.type_demands.specs.Demands.{at_line}
use Rattle.type_demands.specs.Syms.{Sym, literal_sym, never, plain}
use Rattle.type_demands.proofs.terms.literal_demands.Goals as goal

chosen : (b : Bool) → b ≡ true → (if b then plain s.Int else never) ≡ plain s.Int
chosen true holds = refl
chosen false holds = absurd (cc)

pub returns-then-is_narrow : goal.returns-then-is_narrow
returns-then-is_narrow c =
    let narrow : is_i64 c.in-Int.field-0 ≡ true = sym (is_narrow_of (kept.Int c.in-Int.field-0)) ∙ ap (λ (v : Value). is_narrow (val_of v)) (sym c.in-Int.is) ∙ sym c.is_narrow.ensures ∙ c.if-is_narrow.true in
    let is : literal_sym c.args.value.now ≡ plain s.Int = ap literal_sym c.in-Int.is ∙ chosen (is_i64 c.in-Int.field-0) narrow in
    (sym (ap (λ (x : Sym). x.scheme) is), sym (append-nil c.args.demands.now) ∙ sym (ap (λ (x : Sym). c.args.demands.now ++ at_line c.args.known.now.line x.demands) is))
