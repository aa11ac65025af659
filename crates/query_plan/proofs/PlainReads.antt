-- A plain condition reads its terms alone: it holds in one world where it does in another, if its terms have the same values
-- in both. So it reads the number of the process and the slots, and no slot that it does not name.
use Rattle.std.specs.Prelude.{◌≡◌, ℕ, Bool, true, false, not, ◌&&◌, ◌||◌, neg_ℤ, ◌+ℤ◌, if◌then◌else◌, List, [], ◌∷◌, ◌++◌, map, refl}
use Rattle.std.specs.List.{AllByRecursion, list_any, list_all, flat_map}
use Rattle.std.proofs.Common.{ap, sym, subst, ◌∙◌, inl}
use Rattle.std.proofs.lemmas.Bool.{false≢true, and_parts, false_from_ne_true}
use Rattle.da_values.specs.declared.val.Val.{Val}
use Rattle.da_values.specs.declared.val.Val.TheVariants as val
use Rattle.da_values.specs.Order.{val_cmp}
use Rattle.da_values.specs.Sets.{Has}
use Rattle.da_values.specs.Views.{int_of, truth_of}
use Rattle.da_values.proofs.Members.{Has-append_left, Has-append_right, any_from_has}
use Rattle.da_lang.specs.declared.query.Cond.{Cond}
use Rattle.da_lang.specs.declared.query.Cond.TheVariants as cond
use Rattle.da_lang.specs.declared.query.Cond.TheViews.{out-roll-SignedOperand}
use Rattle.da_lang.specs.declared.query.Operand.{Operand}
use Rattle.da_lang.specs.declared.query.Operand.TheVariants as operand
use Rattle.da_lang.specs.declared.query.SignedOperand.{SignedOperand, roll-SignedOperand}
use Rattle.da_lang.specs.declared.query.Term.{Term}
use Rattle.da_lang.specs.declared.tree.CmpOp.{CmpOp}
use Rattle.da_lang.specs.Matching.{Row, term_value}
use Rattle.da_lang.specs.Naming.{names}
use Rattle.da_lang.specs.Queries.{compares, holds, operand_value, signed_value, total, value_at}
use Rattle.da_lang.specs.World.{Data, put_slot}
use Rattle.da_lang.proofs.CondInduction.{Cases, cond_induction}
use Rattle.da_lang.proofs.NamingLaws.{term_stays}
use Rattle.da_lang.proofs.QueryLaws.{holds-Truth, holds-Cmp, holds-Not, holds-And, holds-Or, operand-Term, operand-Chain, signed-made}
use Rattle.query_plan.specs.PlainNodes.{is_plain, is_plain_operand, is_plain_part}
use Rattle.query_plan.specs.PlanTerms.{Terms, cond_terms, named_in}
use Rattle.query_plan.proofs.PlainAt.{plain-Cmp, plain-Not, plain-And, plain-Or, plain-Quant, plain-Chain, plain-Agg}
use Rattle.query_plan.proofs.PlanTermsAt.{operand_terms, signed_terms, terms-Truth, terms-Cmp, terms-Not, terms-And, terms-Or, terms-Term, terms-Chain, terms_of_signed}

module _ (d e : Data) where
  -- each of the terms has one value in both worlds, whatever the row is
  abbrev pub SameValues : Terms → Type 0
  SameValues terms = (t : Term) → Has terms t → (row : Row) → value_at d row t ≡ value_at e row t

  of_left : (a b : Terms) → SameValues (a ++ b) → SameValues a
  of_left a b same t h = same t (Has-append_left a b t h)

  of_right : (a b : Terms) → SameValues (a ++ b) → SameValues b
  of_right a b same t h = same t (Has-append_right a b t h)

  same_as : (a b : Terms) → a ≡ b → SameValues a → SameValues b
  same_as a b e same = subst SameValues e same

  abbrev OfCond : Cond → Type 0
  OfCond b = is_plain b ≡ true → SameValues (cond_terms b) → (row : Row) → holds d b row ≡ holds e b row

  abbrev OfOperand : Operand → Type 0
  OfOperand a = is_plain_operand a ≡ true → SameValues (operand_terms a) → (row : Row) → operand_value d a row ≡ operand_value e a row

  abbrev OfSigned : SignedOperand → Type 0
  OfSigned s = is_plain_part s ≡ true → SameValues (signed_terms s) → (row : Row) → signed_value d s row ≡ signed_value e s row

  truth_same : (t : Term) → OfCond (cond.Truth t)
  truth_same t plain same row =
      holds-Truth d row t ∙ ap truth_of (same_as (cond_terms (cond.Truth t)) (t ∷ []) (terms-Truth t) same t (inl refl) row) ∙ sym (holds-Truth e row t)

  cmp_same : (op : CmpOp) (a b : Operand) → OfOperand a → OfOperand b → OfCond (cond.Cmp op a b)
  cmp_same op a b one two plain same row =
      let (left, right) = and_parts (is_plain_operand a) (is_plain_operand b) (sym (plain-Cmp op a b) ∙ plain) in
      let both = same_as (cond_terms (cond.Cmp op a b)) (operand_terms a ++ operand_terms b) (terms-Cmp op a b) same in
      holds-Cmp d row op a b
      ∙ ap (λ z. compares op (val_cmp z (operand_value d b row))) (one left (of_left (operand_terms a) (operand_terms b) both) row)
      ∙ ap (λ z. compares op (val_cmp (operand_value e a row) z)) (two right (of_right (operand_terms a) (operand_terms b) both) row)
      ∙ sym (holds-Cmp e row op a b)

  not_same : (b : Cond) → OfCond b → OfCond (cond.Not b)
  not_same b one plain same row =
      holds-Not d row b ∙ ap not (one (sym (plain-Not b) ∙ plain) (same_as (cond_terms (cond.Not b)) (cond_terms b) (terms-Not b) same) row) ∙ sym (holds-Not e row b)

  all_same : (bs : List Cond) → AllByRecursion OfCond bs → list_all is_plain bs ≡ true → SameValues (flat_map cond_terms bs) → (row : Row) → list_all (λ b. holds d b row) bs ≡ list_all (λ b. holds e b row) bs
  all_same [] each plain same row = refl
  all_same (b ∷ bs) each plain same row =
      let (first, others) = and_parts (is_plain b) (list_all is_plain bs) plain in
      ap (λ z. z && list_all (λ b. holds d b row) bs) (each.0 first (of_left (cond_terms b) (flat_map cond_terms bs) same) row)
      ∙ ap (λ z. holds e b row && z) (all_same bs each.1 others (of_right (cond_terms b) (flat_map cond_terms bs) same) row)

  any_same : (bs : List Cond) → AllByRecursion OfCond bs → list_all is_plain bs ≡ true → SameValues (flat_map cond_terms bs) → (row : Row) → list_any (λ b. holds d b row) bs ≡ list_any (λ b. holds e b row) bs
  any_same [] each plain same row = refl
  any_same (b ∷ bs) each plain same row =
      let (first, others) = and_parts (is_plain b) (list_all is_plain bs) plain in
      ap (λ z. z || list_any (λ b. holds d b row) bs) (each.0 first (of_left (cond_terms b) (flat_map cond_terms bs) same) row)
      ∙ ap (λ z. holds e b row || z) (any_same bs each.1 others (of_right (cond_terms b) (flat_map cond_terms bs) same) row)

  and_same : (bs : List Cond) → AllByRecursion OfCond bs → OfCond (cond.And bs)
  and_same bs each plain same row =
      holds-And d row bs ∙ all_same bs each (sym (plain-And bs) ∙ plain) (same_as (cond_terms (cond.And bs)) (flat_map cond_terms bs) (terms-And bs) same) row ∙ sym (holds-And e row bs)

  or_same : (bs : List Cond) → AllByRecursion OfCond bs → OfCond (cond.Or bs)
  or_same bs each plain same row =
      holds-Or d row bs ∙ any_same bs each (sym (plain-Or bs) ∙ plain) (same_as (cond_terms (cond.Or bs)) (flat_map cond_terms bs) (terms-Or bs) same) row ∙ sym (holds-Or e row bs)

  term_same : (t : Term) → OfOperand (operand.Term t)
  term_same t plain same row =
      operand-Term d row t ∙ same_as (operand_terms (operand.Term t)) (t ∷ []) (terms-Term t) same t (inl refl) row ∙ sym (operand-Term e row t)

  more_same : (ss : List SignedOperand) → AllByRecursion OfSigned ss → list_all is_plain_part ss ≡ true → SameValues (flat_map signed_terms ss) → (row : Row) → map (λ s. signed_value d s row) ss ≡ map (λ s. signed_value e s row) ss
  more_same [] each plain same row = refl
  more_same (s ∷ ss) each plain same row =
      let (first, others) = and_parts (is_plain_part s) (list_all is_plain_part ss) plain in
      ap (λ z. z ∷ map (λ s. signed_value d s row) ss) (each.0 first (of_left (signed_terms s) (flat_map signed_terms ss) same) row)
      ∙ ap (λ zs. signed_value e s row ∷ zs) (more_same ss each.1 others (of_right (signed_terms s) (flat_map signed_terms ss) same) row)

  chain_same : (a : Operand) (ss : List SignedOperand) → OfOperand a → AllByRecursion OfSigned ss → OfOperand (operand.Chain a ss)
  chain_same a ss one each plain same row =
      let (first, others) = and_parts (is_plain_operand a) (list_all is_plain_part ss) (sym (plain-Chain a ss) ∙ plain) in
      let both = same_as (operand_terms (operand.Chain a ss)) (operand_terms a ++ flat_map signed_terms ss) (terms-Chain a ss) same in
      operand-Chain d row a ss
      ∙ ap (λ z. val.Int (int_of z +ℤ total (map (λ s. signed_value d s row) ss))) (one first (of_left (operand_terms a) (flat_map signed_terms ss) both) row)
      ∙ ap (λ z. val.Int (int_of (operand_value e a row) +ℤ total z)) (more_same ss each others (of_right (operand_terms a) (flat_map signed_terms ss) both) row)
      ∙ sym (operand-Chain e row a ss)

  signed_same : (minus : Bool) (a : Operand) → OfOperand a → OfSigned (roll-SignedOperand (record { minus = minus; operand = a }))
  signed_same minus a one plain same row =
      let own : is_plain_operand a ≡ true = sym (ap (λ z. is_plain_operand z.operand) (out-roll-SignedOperand (record { minus = minus; operand = a }))) ∙ plain in
      let alike = one own (same_as (signed_terms (roll-SignedOperand (record { minus = minus; operand = a }))) (operand_terms a) (terms_of_signed minus a) same) row in
      signed-made d row minus a ∙ ap (λ z. if minus then neg_ℤ (int_of z) else int_of z) alike ∙ sym (signed-made e row minus a)

  abbrev cases : Cases
  cases = record {
    Of_cond = OfCond;
    Of_operand = OfOperand;
    Of_agg = λ a. Unit {0};
    Of_signed = OfSigned;
    truth = truth_same;
    cmp = cmp_same;
    negation = not_same;
    conjunction = and_same;
    disjunction = or_same;
    quant = λ each gens b law plain. absurd (false≢true (sym (plain-Quant each gens b) ∙ plain));
    term = term_same;
    agg = λ a law plain. absurd (false≢true (sym (plain-Agg a) ∙ plain));
    chain = chain_same;
    over = λ op gens b t other law. tt;
    signed = signed_same;
  }

  -- A plain condition holds in both worlds or in none, where its terms have the same values.
  pub plain_same : (b : Cond) → OfCond b
  plain_same = cond_induction cases

-- Terms read the number of the process and the slots.
pub value_same : (d e : Data) → d.me ≡ e.me → d.slots ≡ e.slots → (t : Term) (row : Row) → value_at d row t ≡ value_at e row t
value_same d e mine same t row = ap (λ me. term_value me d.slots row t) mine ∙ ap (λ slots. term_value e.me slots row t) same

-- So do plain conditions.
pub plain_alike : (d e : Data) → d.me ≡ e.me → d.slots ≡ e.slots → (b : Cond) → is_plain b ≡ true → (row : Row) → holds d b row ≡ holds e b row
plain_alike d e mine same b plain row = plain_same d e b plain (λ t h r. value_same d e mine same t r) row

-- Terms that do not name a slot keep their values when it is assigned.
pub unnamed_values : (d : Data) (s : ℕ) (x : Val) (terms : Terms) → named_in s terms ≡ false → SameValues (put_slot d s x) d terms
unnamed_values d s x terms none t h row =
    term_stays d.me d.slots s x t (false_from_ne_true (names s t) (λ named. false≢true (sym none ∙ any_from_has (names s) terms t h named))) row

-- So a plain condition that does not name it holds as before.
pub plain_stays : (d : Data) (s : ℕ) (x : Val) (b : Cond) → is_plain b ≡ true → named_in s (cond_terms b) ≡ false → (row : Row) → holds (put_slot d s x) b row ≡ holds d b row
plain_stays d s x b plain none row = plain_same (put_slot d s x) d b plain (unnamed_values d s x (cond_terms b) none) row
