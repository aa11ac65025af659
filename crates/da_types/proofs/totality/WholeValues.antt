-- Where the constants of a query are values that there are, so is its value, and its processes are there.
use Rattle.std.specs.Prelude.{◌≡◌, refl, ℕ, ◌<◌, ◌^◌, true, false, ◌&&◌, List, [], ◌∷◌, map, length, nat_lt, nat_le, Option, Some, None}
use Rattle.std.specs.List.{AllByRecursion, list_all, flat_map}
use Rattle.std.proofs.Common.{◌∙◌, ap, sym, subst, inl, inr, arith}
use Rattle.std.proofs.lemmas.Bool.{and_parts, and_from, lt-ltb, le-leb}
use Rattle.da_values.specs.declared.val.Val.{Val, out-Val}
use Rattle.da_values.specs.declared.val.Val.TheVariants as val
use Rattle.da_values.specs.declared.value.Value.{Value}
use Rattle.da_values.specs.declared.value.Value.TheVariants as kept
use Rattle.da_values.specs.Narrow.{is_narrow}
use Rattle.da_values.specs.Order.{val_cmp}
use Rattle.da_values.specs.Proper.{IsValue, AreValues}
use Rattle.da_values.specs.Sets.{Has, Ascends}
use Rattle.da_values.specs.Value.{val_of}
use Rattle.da_values.proofs.Members.{Has-append_left, Has-append_right, Has-flat_map}
use Rattle.da_values.proofs.FoldsAt.{is_narrow_of}
use Rattle.da_values.proofs.ReadLaws.{IsProper, proper_of}
use Rattle.da_lang.specs.declared.program.Class.{Class}
use Rattle.da_lang.specs.declared.program.Handler.{Handler}
use Rattle.da_lang.specs.declared.program.Program.{Program}
use Rattle.da_lang.specs.declared.query.Cond.TheViews.{out-Agg}
use Rattle.da_lang.specs.declared.query.Query.{Query}
use Rattle.da_lang.specs.declared.query.Query.TheVariants as qu
use Rattle.da_lang.specs.declared.query.Term.{Term}
use Rattle.da_lang.specs.declared.query.Term.TheVariants as te
use Rattle.da_lang.specs.declared.query.Term.TheOpen.{Term-F}
use Rattle.da_lang.specs.declared.query.Term.TheFolds.{fold-roll-Term}
use Rattle.da_lang.specs.declared.ty.Ty.{Ty}
use Rattle.da_lang.specs.Matching.{Row, matched_entry}
use Rattle.da_lang.specs.Queries.{least_row, least_of_numbered, query_value, value_of_numbered, value_of_query}
use Rattle.da_lang.specs.QueryTypes.{literal_type, query_row, query_type}
use Rattle.da_lang.specs.Shaped.{ShapedData, IsOf, IsEntry, IsProcess, has_processes, is_declared}
use Rattle.da_lang.specs.Typing.{handler_row}
use Rattle.da_lang.specs.World.{Data, Entry, at_number}
use Rattle.da_lang.proofs.typing.ShapedAt.{has_processes-Bool, has_processes-Proc, has_processes-Tuple, has_processes-Set}
use Rattle.da_types.specs.Totality.{IsConstant, constants, constants_step, counts, other_constants, query_constants}
use Rattle.da_types.proofs.totality.FoundMatches.{flattened}
use Rattle.da_types.proofs.totality.HaveValues.{query_has}
use Rattle.da_types.proofs.totality.Keeping.{Keeping, EntryFits, RowFits, Knows}
use Rattle.da_types.proofs.totality.QueriesFit.{OtherGood}
use Rattle.da_types.proofs.totality.QueriesKept.{GoodQuery, query_kept, least_fits}
use Rattle.da_types.proofs.totality.RowsFit.{entry_fits}
use Rattle.da_types.proofs.totality.Worlds.{known_here, knows_here, literal_narrow, of_all, slot_there}

pub constants-Const : (c : Value) → constants (te.Const c) ≡ c ∷ []
constants-Const c = ap constants (sym (te.rolls-Const c)) ∙ fold-roll-Term (List Value) constants_step (Term-F.Const c)

pub constants-Tuple : (xs : List Term) → constants (te.Tuple xs) ≡ flat_map constants xs
constants-Tuple xs = ap constants (sym (te.rolls-Tuple xs)) ∙ fold-roll-Term (List Value) constants_step (Term-F.Tuple xs) ∙ flattened constants xs

-- a value that there is, all of whose integers lie in an i64 and whose processes are there
abbrev pub IsWhole : ℕ → Val → Type 0
IsWhole most v = IsValue v × (is_narrow v ≡ true) × (has_processes most v ≡ true)

module _ (p : Program) where
  abbrev pub most : ℕ
  most = length p.procs

  abbrev pub Whole : Val → Type 0
  Whole v = IsWhole most v

  abbrev pub AreConstants : Term → Type 0
  AreConstants x = (c : Value) → Has (constants x) c → IsConstant p c

  pub part_constants : (xs all : List Term) → ((x : Term) → Has xs x → Has all x) → ((c : Value) → Has (flat_map constants all) c → IsConstant p c) → AllByRecursion AreConstants xs
  part_constants [] all among each = tt
  part_constants (x ∷ xs) all among each = ((λ c h. each c (Has-flat_map constants all x c (among x (inl refl)) h)), part_constants xs all (λ y h. among y (inr h)) each)

  whole_values : (vs : List Val) → AllByRecursion Whole vs → AreValues vs
  whole_values [] each = AreValues.none
  whole_values (v ∷ vs) each = AreValues.more v vs each.0.0 (whole_values vs each.1)

  whole_narrow : (vs : List Val) → AllByRecursion Whole vs → list_all is_narrow vs ≡ true
  whole_narrow [] each = refl
  whole_narrow (v ∷ vs) each = and_from (is_narrow v) (list_all is_narrow vs) each.0.1 (whole_narrow vs each.1)

  whole_processes : (vs : List Val) → AllByRecursion Whole vs → list_all (λ part. part) (map (has_processes most) vs) ≡ true
  whole_processes [] each = refl
  whole_processes (v ∷ vs) each = and_from (has_processes most v) (list_all (λ part. part) (map (has_processes most) vs)) each.0.2 (whole_processes vs each.1)

  each_whole : (vs : List Val) → AreValues vs → list_all is_narrow vs ≡ true → list_all (λ part. part) (map (has_processes most) vs) ≡ true → AllByRecursion Whole vs
  each_whole [] values small there = tt
  each_whole (v ∷ vs) (AreValues.more _ _ one others) small there =
      let a = and_parts (is_narrow v) (list_all is_narrow vs) small in
      let b = and_parts (has_processes most v) (list_all (λ part. part) (map (has_processes most) vs)) there in
      ((one, a.0, b.0), each_whole vs others a.1 b.1)

  members : (vs : List Val) → ((v : Val) → Has vs v → Whole v) → AllByRecursion Whole vs
  members [] each = tt
  members (v ∷ vs) each = (each v (inl refl), members vs (λ u h. each u (inr h)))

  member : (vs : List Val) → AllByRecursion Whole vs → (v : Val) → Has vs v → Whole v
  member [] each v h = absurd h
  member (u ∷ vs) each v (inl is) = subst Whole (sym is) each.0
  member (u ∷ vs) each v (inr h) = member vs each.1 v h

  pub tuple_whole : (vs : List Val) → AllByRecursion Whole vs → Whole (val.Tuple vs)
  tuple_whole vs each = (IsValue.tuple vs (whole_values vs each), is_narrow_of (kept.Tuple vs) ∙ whole_narrow vs each, has_processes-Tuple most vs ∙ whole_processes vs each)

  pub parts_whole : (vs : List Val) → Whole (val.Tuple vs) → AllByRecursion Whole vs
  parts_whole vs one = each_whole vs (subst IsProper (val.outs-Tuple vs) (proper_of (val.Tuple vs) one.0)) (sym (is_narrow_of (kept.Tuple vs)) ∙ one.1) (sym (has_processes-Tuple most vs) ∙ one.2)

  pub set_whole : (vs : List Val) → ((v : Val) → Has vs v → Whole v) → Ascends val_cmp vs → Whole (val.Set vs)
  set_whole vs each up =
      let all = members vs each in
      (IsValue.set vs (whole_values vs all) up, is_narrow_of (kept.Set vs) ∙ whole_narrow vs all, has_processes-Set most vs ∙ whole_processes vs all)

  pub elements_whole : (vs : List Val) → Whole (val.Set vs) → (v : Val) → Has vs v → Whole v
  elements_whole vs one v h =
      let proper : IsProper (out-Val (val.Set vs)) = proper_of (val.Set vs) one.0 in
      let (values, up) = subst IsProper (val.outs-Set vs) proper in
      member vs (each_whole vs values (sym (is_narrow_of (kept.Set vs)) ∙ one.1) (sym (has_processes-Set most vs) ∙ one.2)) v h

  pub constant_whole : (c : Value) (ty : Ty) → literal_type c ≡ Some ty → AreConstants (te.Const c) → Whole (val_of c)
  constant_whole c ty e each =
      let is = each c (subst (λ z. Has z c) (sym (constants-Const c)) (inl refl)) in
      (is.proper, literal_narrow c ty e, is.processes)

  abbrev pub whole : Keeping
  whole = record {
    Kept = Whole;
    Good = AreConstants;
    constant = constant_whole;
    terms = λ xs good. part_constants xs xs (λ x h. h) (subst (λ z. (c : Value) → Has z c → IsConstant p c) (constants-Tuple xs) good);
    truth = λ b. (IsValue.truth b, is_narrow_of (kept.Bool b), has_processes-Bool most b);
    tuple = tuple_whole;
    parts = parts_whole;
    set = set_whole;
    elements = elements_whole;
  }

  -- there are fewer than 65,536 processes
  module _ (few : length p.procs < 2 ^ 16) where
    process_whole : (process : ℕ) → IsProcess p process → Whole (val.Proc process)
    process_whole process (some, inside) =
        (IsValue.process process some (omega (arith, inside, few)), is_narrow_of (kept.Proc process), has_processes-Proc most process ∙ and_from (nat_lt 0 process) (nat_le process most) (lt-ltb 0 process some) (le-leb process most inside))

    module _ (c : Class) (d : Data) (s : ShapedData p c d) where
      entry_whole : (e : Entry) → IsEntry p e → EntryFits whole (known_here p c d s) e
      entry_whole e is =
          let (first, processes) = and_parts (is_declared p.messages e.message && is_narrow e.message) (has_processes most e.message) is.typed in
          let (declared, small) = and_parts (is_declared p.messages e.message) (is_narrow e.message) first in
          (declared, (is.proper, small, processes), process_whole e.peer is.peer)

      knows_whole : Knows whole (known_here p c d s) d
      knows_whole = record {
        me = process_whole d.me s.me;
        slots = λ slot ty e. (let one = s.slots slot ty e in (one.typed, (one.proper, one.narrow, one.processes)));
        there = λ slot ty e. slot_there d c.slots slot ty s.size e;
        sent = λ e h. entry_whole e (of_all (IsEntry p) d.sent s.sent e h);
        received = λ e h. entry_whole e (of_all (IsEntry p) d.received s.received e h);
      }

      other_constant : (x : Option Term) → ((v : Value) → Has (other_constants x) v → IsConstant p v) → OtherGood whole x
      other_constant None each = tt
      other_constant (Some x) each = each

      good_constants : (q : Query) → ((v : Value) → Has (query_constants q) v → IsConstant p v) → GoodQuery whole q
      good_constants (qu.Quant each gens b) all = tt
      good_constants (qu.Comp x gens b) all = all
      good_constants (qu.Agg a) all =
          let first = constants (out-Agg a).term in
          let others = other_constants (out-Agg a).other in
          ((λ c h. all c (Has-append_left first others c h)), other_constant (out-Agg a).other (λ c h. all c (Has-append_right first others c h)))

      whole_of : (q : Query) (ty : Ty) → query_type (known_here p c d s) q ≡ Some ty → ((v : Value) → Has (query_constants q) v → IsConstant p v) → counts q ≡ false → IsOf p ty (value_of_query d q)
      whole_of q ty e all f =
          let one = query_kept whole (known_here p c d s) d knows_whole q ty e (good_constants q all) f in
          record { proper = one.0; narrow = one.1; typed = (query_has (known_here p c d s) d (knows_here p c d s) q ty e).typed; processes = one.2 }

      -- the value of a numbered query but for the integer of a `count` or a `sum` is one that a slot of its type may have
      pub whole_query : (n : ℕ) (q : Query) (ty : Ty) → at_number c.queries n ≡ Some q → query_type (known_here p c d s) q ≡ Some ty → ((v : Value) → Has (query_constants q) v → IsConstant p v) → counts q ≡ false → IsOf p ty (query_value c.queries n d)
      whole_query n q ty is e all f = subst (IsOf p ty) (sym (ap (value_of_numbered d) is)) (whole_of q ty e all f)

      -- the row that a `some` finds, and the one that a handler's patterns take from a message, are of the types of what
      -- they bind, and whole
      pub whole_least : (n : ℕ) (q : Query) (types : List Ty) (r : Row) → at_number c.queries n ≡ Some q → query_row (known_here p c d s) q ≡ Some types → least_row c.queries n d ≡ Some r → RowFits whole types r
      whole_least n q types r is e found = least_fits whole (known_here p c d s) d knows_whole q types r e (sym (ap (least_of_numbered d) is) ∙ found)

      pub whole_handler : (h : Handler) (e : Entry) (types : List Ty) (r : Row) → IsEntry p e → handler_row p.messages c.queries h c.slots ≡ Some types → matched_entry d h.message h.from e.message e.peer [] ≡ Some r → RowFits whole types r
      whole_handler h e types r is typed found = entry_fits whole (known_here p c d s) d knows_whole e (entry_whole e is) h.message h.from [] types [] r typed tt found
