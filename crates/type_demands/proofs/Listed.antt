-- What is listed by calls one after the other.
use Rattle.std.specs.Prelude.{◌≡◌, ℕ, Bool, false, List, [], ◌∷◌, ◌++◌, IfOk, Result}
use Rattle.std.proofs.Common.{◌∙◌, ap, ap₂, sym, subst, append_assoc}
use Rattle.std.proofs.lemmas.Result.{IfOk-weaker}
use Rattle.da_lang.specs.declared.program.RExpr.{RExpr}
use Rattle.da_values.specs.declared.list.NoMemory.{NoMemory}
use Rattle.type_table.specs.declared.scheme.Scheme.{Scheme}
use Rattle.type_table.specs.declared.scheme.Scheme.TheVariants as s
use Rattle.type_demands.specs.declared.demand.Demand.{Demand}
use Rattle.type_demands.specs.declared.demand.Demand.TheVariants as d
use Rattle.type_demands.specs.declared.demand.LineDemand.{LineDemand}
use Rattle.type_demands.specs.declared.known.Known.{Known}
use Rattle.type_demands.specs.declared.sides.SideScheme.{SideScheme}
use Rattle.type_demands.specs.Conds.{SideSym, no_sum, operand_asks, side_sym}
use Rattle.type_demands.specs.Demands.{at_line}
use Rattle.type_demands.specs.Listing.{ListsType, expr_in}
use Rattle.type_demands.specs.Syms.{Sym, demands_in, flat_sym, schemes_in, tuple_sym}
use Rattle.type_demands.proofs.PutLaws.{at_line-both}

-- a type after further demands
abbrev pub after_sym : List Demand → Sym → Sym
after_sym demands x = record { demands = demands ++ x.demands; scheme = x.scheme }

-- an expression by itself
abbrev pub own : Known → RExpr → Sym
own known x = (expr_in known x).itself

pub both_listed : (line : ℕ) (old mid new : List LineDemand) (first second : List Demand) → mid ≡ old ++ at_line line first → new ≡ mid ++ at_line line second → new ≡ old ++ at_line line (first ++ second)
both_listed line old mid new first second is more =
    more ∙ ap (λ (ds : List LineDemand). ds ++ at_line line second) is ∙ append_assoc old (at_line line first) (at_line line second) ∙ ap (λ (ds : List LineDemand). old ++ ds) (sym (at_line-both line first second))

-- the parts of a tuple, and its type
pub tuple_listed : (line : ℕ) (old mid new : List LineDemand) (syms : List Sym) (parts : List Scheme) (scheme : Scheme) (z : Sym) → z ≡ flat_sym (tuple_sym syms) → parts ≡ schemes_in syms → mid ≡ old ++ at_line line (demands_in syms) → scheme ≡ s.Tuple parts → new ≡ mid ++ at_line line (d.Flat (s.Tuple parts) ∷ []) → (scheme ≡ z.scheme) × (new ≡ old ++ at_line line z.demands)
tuple_listed line old mid new syms parts scheme z is are grown made put = (
  made ∙ ap (λ (ps : List Scheme). s.Tuple ps) are ∙ sym (ap (λ (x : Sym). x.scheme) is),
  both_listed line old mid new (demands_in syms) (d.Flat (s.Tuple (schemes_in syms)) ∷ []) grown (put ∙ ap (λ (ps : List Scheme). mid ++ at_line line (d.Flat (s.Tuple ps) ∷ [])) are)
      ∙ sym (ap (λ (x : Sym). old ++ at_line line x.demands) is),
)

-- the first operand of a chain, what it is asked for, and the further ones
pub chain_listed : (line : ℕ) (old mid asked new : List LineDemand) (x : SideSym) (side : SideScheme) (further : List Demand) (z : SideSym) → z ≡ side_sym (record { demands = operand_asks x ++ further; scheme = s.Int }) → side.scheme ≡ x.itself.scheme → side.sum ≡ x.sum
    → mid ≡ old ++ at_line line x.itself.demands → asked ≡ mid ++ at_line line (d.Int side.scheme ∷ no_sum side.sum) → new ≡ asked ++ at_line line further → (s.Int ≡ z.itself.scheme) × (false ≡ z.sum) × (new ≡ old ++ at_line line z.itself.demands)
chain_listed line old mid asked new x side further z is typed summed grown put more =
    let asks : asked ≡ old ++ at_line line (operand_asks x) =
    both_listed line old mid asked x.itself.demands (d.Int x.itself.scheme ∷ no_sum x.sum) grown (put ∙ ap₂ (λ (scheme : Scheme) (sum : Bool). mid ++ at_line line (d.Int scheme ∷ no_sum sum)) typed summed)
    ∙ ap (λ (ds : List Demand). old ++ at_line line ds) (sym (append_assoc x.itself.demands (d.Int x.itself.scheme ∷ []) (no_sum x.sum))) in
    (sym (ap (λ (y : SideSym). y.itself.scheme) is), sym (ap (λ (y : SideSym). y.sum) is), both_listed line old asked new (operand_asks x) further asks more ∙ sym (ap (λ (y : SideSym). old ++ at_line line y.itself.demands) is))

-- what one call lists is what an expression of this form demands
pub form_listed : (known : Known) (old new : List LineDemand) (result : Result Scheme NoMemory) (x form : RExpr) (y : Sym) → x ≡ form → own known form ≡ y → IfOk result (λ scheme. ListsType old new known y scheme) → IfOk result (λ scheme. ListsType old new known (own known x) scheme)
form_listed known old new result x form y is demanded found = subst (λ (z : Sym). IfOk result (λ scheme. ListsType old new known z scheme)) (sym (ap (own known) is ∙ demanded)) found

-- the same of a call after one that lists demands
pub after_listed : (known : Known) (old mid new : List LineDemand) (result : Result Scheme NoMemory) (x form : RExpr) (demands : List Demand) (y : Sym) → x ≡ form → own known form ≡ after_sym demands y → mid ≡ old ++ at_line known.line demands
    → IfOk result (λ scheme. ListsType mid new known y scheme) → IfOk result (λ scheme. ListsType old new known (own known x) scheme)
after_listed known old mid new result x form demands y is demanded first found =
    form_listed known old new result x form (after_sym demands y) is demanded
    (IfOk-weaker result (λ scheme. ListsType mid new known y scheme) (λ scheme. ListsType old new known (after_sym demands y) scheme) (λ scheme listed. (listed.0, both_listed known.line old mid new demands y.demands first listed.1)) found)

-- the same of a call that is given the type of a part
pub typed_listed : (known : Known) (old mid new : List LineDemand) (result : Result Scheme NoMemory) (x form : RExpr) (part : Sym) (given : Scheme) (y : Scheme → Sym) → x ≡ form → own known form ≡ after_sym part.demands (y part.scheme) → ListsType old mid known part given
    → IfOk result (λ scheme. ListsType mid new known (y given) scheme) → IfOk result (λ scheme. ListsType old new known (own known x) scheme)
typed_listed known old mid new result x form part given y is demanded first found =
    after_listed known old mid new result x form part.demands (y part.scheme) is demanded first.1
    (subst (λ (z : Scheme). IfOk result (λ scheme. ListsType mid new known (y z) scheme)) first.0 found)
