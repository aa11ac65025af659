-- What is waited for at a yield point: the alternatives of its `await`, each with a flag that has a row exactly where its
-- condition holds.
use Rattle.std.specs.Prelude.{◌≡◌, ℕ, List, [], ◌∷◌, ◌++◌, drop, flat_map, map, Bool, true, false, Option, None, Some, unwrap_or, refl, slice_get}
use Rattle.std.specs.List.{AllByRecursion, AllZip}
use Rattle.std.proofs.Common.{◌∙◌, ap, sym, subst, append_assoc, append-nil}
use Rattle.da_lang.specs.declared.program.Alt.{Alt, roll-Alt}
use Rattle.da_lang.specs.declared.program.Class.{Class}
use Rattle.da_lang.specs.declared.program.Handler.{Handler}
use Rattle.da_lang.specs.declared.program.Item.{Item, roll-Item}
use Rattle.da_lang.specs.declared.program.ItemKind.{ItemKind, roll-ItemKind}
use Rattle.da_lang.specs.declared.program.ItemKind.TheFolds.{fold-roll-Alt, fold-roll-Item, fold-roll-RBranch, map-ItemKind}
use Rattle.da_lang.specs.declared.program.ItemKind.TheOpen.{Alt-F, Item-F, ItemKind-F, RBranch-F}
use Rattle.da_lang.specs.declared.program.ItemKind.TheVariants as it
use Rattle.da_lang.specs.declared.program.ItemKind.TheViews.{out-Alt, out-ItemKind, out-roll-Alt, out-roll-Item, out-roll-ItemKind, out-roll-RBranch}
use Rattle.da_lang.specs.declared.program.RBranch.{RBranch, roll-RBranch}
use Rattle.da_lang.specs.declared.program.RExpr.{RExpr}
use Rattle.da_lang.specs.declared.query.Cond.{Cond}
use Rattle.da_lang.specs.declared.query.Node.{Node}
use Rattle.da_lang.specs.Queries.{holds}
use Rattle.da_lang.specs.World.{Data}
use Rattle.da_lang.proofs.ItemInduction.{ItemCases, item_induction}
use Rattle.da_machine.specs.Points.{AtAwait, AtLabel, IsNumbered, Point, Points, Way, class_points, points_in, ways_of}
use Rattle.code_gen.specs.Made.{alt_points, block_points, branch_points}
use Rattle.code_gen.proofs.PointLaws.{points_at, points_in_kind}
use Rattle.quant_norm.proofs.AwaitedLaws.{alt_met, branch_met, kind_met, met_is}
use Rattle.quant_norm.proofs.ClassLaw.{class_law}
use Rattle.query_plan.specs.Nodes.{node_rows}
use Rattle.query_plan.specs.Questions.{Asked, Met, alt_met_step, asks, awaited, branch_met_step, class_met, item_met, item_met_step, joined, kind_met_step, norm_class}
use Rattle.query_plan.specs.Told.{TellsFlag, has_row}
use Rattle.da_core.proofs.PlanLaws.{Together, zipped_at}
use Rattle.da_core.specs.declared.waits.Alternative.{Alternative}
use Rattle.da_core.specs.declared.waits.Wait.{Wait}
use Rattle.da_core.specs.Waits.{AltTake, AltsTaken, Take, Taken, all_taken, alt_take, alts_taken, at_label, await_taken, branch_take, class_take, handler_take, item_take, items_take, kind_take, next_flag, none_taken, waits_of}
use Rattle.da_core.proofs.WaitForms.{alt_layer, both_taken, branch_layer, item_layer, take-Add, take-Assign, take-Await, take-Call, take-Del, take-For, take-If, take-Label, take-Output, take-Pass, take-Send, take-While}

zip_append : {A B : Type 0} (R : A → B → Type 0) (xs : List A) (ys : List B) (zs : List A) (ws : List B) → AllZip R xs ys → AllZip R zs ws → AllZip R (xs ++ zs) (ys ++ ws)
zip_append R [] [] zs ws first second = second
zip_append R [] (y ∷ ys) zs ws first second = absurd first
zip_append R (x ∷ xs) [] zs ws first second = absurd first
zip_append R (x ∷ xs) (y ∷ ys) zs ws first second = (first.0, zip_append R xs ys zs ws first.1 second)

-- PARTS OF THE TEXT

module _ (R : Cond → ℕ → Type 0) where
  -- it finds and binds the same as an alternative of a yield point, and its flag goes with the condition
  record IsWay (alternative : Alternative) (way : Way) : Type 0 where
    found : alternative.found ≡ way.found
    binds : alternative.binds ≡ way.binds
    flag : R way.waits_for alternative.flag

  -- so do all alternatives of an `await`, with the same label, and a timeout of both or of none
  record IsAt (own : Wait) (ways : List Way) (timed : Bool) (label : Option ℕ) : Type 0 where
    alternatives : AllZip IsWay own.alternatives ways
    timed_is : own.has_timeout ≡ timed
    label_is : own.label ≡ label

  -- a label is a yield point as it stands
  abbrev IsAwaited : Wait → Point → Type 0
  IsAwaited own (AtLabel l) = own ≡ at_label l
  IsAwaited own (AtAwait ways timed label) = IsAt own ways timed label

  -- it was taken for these yield points, and the flags that are left go with what is met next
  record Told (points : Points) (next : List Met) (taken : Taken) : Type 0 where
    waits : AllZip IsAwaited taken.waits points
    left : AllZip R (awaited next) taken.left

  -- What is met in a part of the text, its yield points, and what is taken for them: where flags go with what is met there and
  -- next, they are taken so.
  abbrev Goes : List Met → Points → Take → Type 0
  Goes met points take = (next : List Met) (flags : List ℕ) → AllZip R (awaited (met ++ next)) flags → Told points next (take flags)

  goes_as : (met more : List Met) (points ps : Points) (take took : Take) → met ≡ more → points ≡ ps → ((flags : List ℕ) → take flags ≡ took flags) → Goes more ps took → Goes met points take
  goes_as met more points ps take took same_met same_points same goes next flags all =
      let told = goes next flags (subst (λ x. AllZip R (awaited (x ++ next)) flags) same_met all) in
      subst (Told points next) (sym (same flags)) (subst (λ x. Told x next (took flags)) (sym same_points) told)

  nothing : Goes [] [] none_taken
  nothing next flags all = record { waits = tt; left = all }

  both_go : (first second : List Met) (ps qs : Points) (one two : Take) → Goes first ps one → Goes second qs two → Goes (first ++ second) (ps ++ qs) (both_taken one two)
  both_go first second ps qs one two one_goes two_goes next flags all =
      let front = one_goes (second ++ next) flags (subst (λ met. AllZip R (awaited met) flags) (append_assoc first second next) all) in
      let back = two_goes next (one flags).left front.left in
      record { waits = zip_append IsAwaited (one flags).waits ps (two (one flags).left).waits qs front.waits back.waits; left = back.left }

  all_go : {A : Type 0} (met : A → List Met) (points : A → Points) (take : A → Take) (xs : List A) → AllByRecursion (λ x. Goes (met x) (points x) (take x)) xs
      → Goes (joined (map met xs)) (flat_map points xs) (all_taken (map take xs))
  all_go met points take [] each = nothing
  all_go met points take (x ∷ xs) each =
      both_go (met x) (joined (map met xs)) (points x) (flat_map points xs) (take x) (all_taken (map take xs)) each.0 (all_go met points take xs each.1)

  -- ALTERNATIVES

  -- the next flag goes with the condition, and then comes the block
  record AltTold (b : Cond) (body : List Item) (next : List Met) (flags : List ℕ) : Type 0 where
    flag : R b (next_flag flags)
    block : Told (block_points body) next (items_take body (drop 1 flags))

  abbrev AltGoes : Alt → Type 0
  AltGoes a = (next : List Met) (flags : List ℕ) → AllZip R (awaited (alt_met a ++ next)) flags → AltTold (out-Alt a).cond (out-Alt a).body next flags

  record AltsTold (alts : List Alt) (next : List Met) (taken : AltsTaken) : Type 0 where
    own : AllZip IsWay taken.own (ways_of alts)
    inside : AllZip IsAwaited taken.inside (flat_map alt_points alts)
    left : AllZip R (awaited next) taken.left

  alts_go : (alts : List Alt) → AllByRecursion AltGoes alts → (next : List Met) (flags : List ℕ) → AllZip R (awaited (joined (map alt_met alts) ++ next)) flags
      → AltsTold alts next (alts_taken (map alt_take alts) flags)
  alts_go [] each next flags all = record { own = tt; inside = tt; left = all }
  alts_go (a ∷ alts) each next flags all =
      let body = (out-Alt a).body in
      let took : AltTake = record { found = (out-Alt a).found; binds = (out-Alt a).binds; block = items_take body } in
      let met = joined (map alt_met alts) in
      let first = each.0 (met ++ next) flags (subst (λ x. AllZip R (awaited x) flags) (append_assoc (alt_met a) met next) all) in
      let block = items_take body (drop 1 flags) in
      let others = alts_go alts each.1 next block.left first.block.left in
      subst (λ t. AltsTold (a ∷ alts) next (alts_taken (t ∷ map alt_take alts) flags)) (sym (alt_layer a)) (record {
        own = (record { found = refl; binds = refl; flag = first.flag }, others.own);
        inside = zip_append IsAwaited block.waits (block_points body) (alts_taken (map alt_take alts) block.left).inside (flat_map alt_points alts) first.block.waits others.inside;
        left = others.left;
      })

  labels : (l : ℕ) → Goes [] (AtLabel l ∷ []) (λ flags. record { waits = at_label l ∷ []; left = flags })
  labels l next flags all = record { waits = (refl, tt); left = all }

  -- STATEMENTS

  abbrev KindGoes : ItemKind → Type 0
  KindGoes k = Goes (kind_met k) (points_in_kind (out-ItemKind k)) (kind_take k)

  abbrev ItemGoes : Item → Type 0
  ItemGoes i = Goes (item_met i) (points_in i) (item_take i)

  abbrev BranchGoes : RBranch → Type 0
  BranchGoes b = Goes (branch_met b) (branch_points b) (branch_take b)

  body_goes : (body : List Item) → AllByRecursion ItemGoes body → Goes (joined (map item_met body)) (block_points body) (items_take body)
  body_goes = all_go item_met points_in item_take

  -- the alternatives of an `await`, and then the block of its timeout
  awaits : (alts : List Alt) (body : List Item) (timed : Bool) (label : Option ℕ) → AllByRecursion AltGoes alts → AllByRecursion ItemGoes body
      → Goes (joined (map alt_met alts) ++ joined (map item_met body)) (AtAwait (ways_of alts) timed label ∷ (flat_map alt_points alts ++ block_points body))
      (λ flags. await_taken (alts_taken (map alt_take alts) flags) timed label (items_take body))
  awaits alts body timed label each others next flags all =
      let met = joined (map item_met body) in
      let taken = alts_taken (map alt_take alts) flags in
      let told = alts_go alts each (met ++ next) flags (subst (λ x. AllZip R (awaited x) flags) (append_assoc (joined (map alt_met alts)) met next) all) in
      let last = body_goes body others next taken.left told.left in
      record {
        waits = (record { alternatives = told.own; timed_is = refl; label_is = refl }, zip_append IsAwaited taken.inside (flat_map alt_points alts) (items_take body taken.left).waits (block_points body) told.inside last.waits);
        left = last.left;
      }

  -- by the form of the statement
  form : (k : ItemKind) (l : ItemKind-F ItemKind Alt Item RBranch) → roll-ItemKind l ≡ k → (took : Take) → ((flags : List ℕ) → kind_take k flags ≡ took flags)
      → Goes (kind_met_step (map-ItemKind ItemKind Alt Item RBranch (List Met) (List Met) (List Met) (List Met) kind_met alt_met item_met branch_met l)) (points_in_kind l) took → KindGoes k
  form k l rolls took same goes =
      goes_as (kind_met k) (kind_met_step (map-ItemKind ItemKind Alt Item RBranch (List Met) (List Met) (List Met) (List Met) kind_met alt_met item_met branch_met l))
      (points_in_kind (out-ItemKind k)) (points_in_kind l) (kind_take k) took (met_is k l rolls)
      (ap (λ x. points_in_kind (out-ItemKind x)) (sym rolls) ∙ ap points_in_kind (out-roll-ItemKind l)) same goes

  if_goes : (branches : List RBranch) (other : List Item) → AllByRecursion BranchGoes branches → AllByRecursion ItemGoes other → KindGoes (it.If branches other)
  if_goes branches other one two =
      form (it.If branches other) (ItemKind-F.If branches other) (it.rolls-If branches other) (both_taken (all_taken (map branch_take branches)) (items_take other)) (λ flags. take-If flags branches other)
      (both_go (joined (map branch_met branches)) (joined (map item_met other)) (flat_map branch_points branches) (block_points other) (all_taken (map branch_take branches)) (items_take other)
      (all_go branch_met branch_points branch_take branches one) (body_goes other two))

  await_goes : (alts : List Alt) (timeout : Option (List Item)) (label : Option ℕ) → AllByRecursion AltGoes alts → AllByRecursion ItemGoes (unwrap_or timeout []) → KindGoes (it.Await alts timeout label)
  await_goes alts None label each others =
      form (it.Await alts None label) (ItemKind-F.Await alts None label) (it.rolls-Await alts None label) (λ flags. await_taken (alts_taken (map alt_take alts) flags) false label (items_take [])) (λ flags. take-Await flags alts None label)
      (awaits alts [] false label each others)
  await_goes alts (Some body) label each others =
      form (it.Await alts (Some body) label) (ItemKind-F.Await alts (Some body) label) (it.rolls-Await alts (Some body) label) (λ flags. await_taken (alts_taken (map alt_take alts) flags) true label (items_take body)) (λ flags. take-Await flags alts (Some body) label)
      (awaits alts body true label each others)

  alt_told : (b : Cond) (body : List Item) (next : List Met) (flags : List ℕ) → AllByRecursion ItemGoes body → AllZip R (b ∷ awaited (joined (map item_met body) ++ next)) flags → AltTold b body next flags
  alt_told b body next [] each all = absurd all
  alt_told b body next (flag ∷ flags) each all = record { flag = all.0; block = body_goes body each next flags all.1 }

  alt_goes : (b : Cond) (found : Option ℕ) (binds : List ℕ) (body : List Item) (line : ℕ) → AllByRecursion ItemGoes body
      → AltGoes (roll-Alt (record { cond = b; found = found; binds = binds; body = body; line = line }))
  alt_goes b found binds body line each next flags all =
      let y : Alt-F ItemKind Alt Item RBranch = record { cond = b; found = found; binds = binds; body = body; line = line } in
      subst (λ x. AltTold x.cond x.body next flags) (sym (out-roll-Alt y))
      (alt_told b body next flags each
      (subst (λ x. AllZip R (awaited (x ++ next)) flags) (fold-roll-Alt (List Met) (List Met) (List Met) (List Met) kind_met_step alt_met_step item_met_step branch_met_step y) all))

  item_goes : (line : ℕ) (k : ItemKind) → KindGoes k → ItemGoes (roll-Item (record { line = line; kind = k }))
  item_goes line k goes =
      let y : Item-F ItemKind Alt Item RBranch = record { line = line; kind = k } in
      let i = roll-Item y in
      goes_as (item_met i) (kind_met k) (points_in i) (points_in_kind (out-ItemKind k)) (item_take i) (kind_take k)
      (fold-roll-Item (List Met) (List Met) (List Met) (List Met) kind_met_step alt_met_step item_met_step branch_met_step y)
      (points_at i ∙ ap (λ x. points_in_kind (out-ItemKind x.kind)) (out-roll-Item y))
      (λ flags. ap (λ (t : Take). t flags) (item_layer i ∙ ap (λ x. kind_take x.kind) (out-roll-Item y))) goes

  branch_goes : (e : RExpr) (found : Option ℕ) (binds : List ℕ) (body : List Item) (line : ℕ) → AllByRecursion ItemGoes body
      → BranchGoes (roll-RBranch (record { cond = e; found = found; binds = binds; body = body; line = line }))
  branch_goes e found binds body line each =
      let y : RBranch-F ItemKind Alt Item RBranch = record { cond = e; found = found; binds = binds; body = body; line = line } in
      let b = roll-RBranch y in
      goes_as (branch_met b) (Asked (asks e) ∷ joined (map item_met body)) (branch_points b) (block_points body) (branch_take b) (items_take body)
      (fold-roll-RBranch (List Met) (List Met) (List Met) (List Met) kind_met_step alt_met_step item_met_step branch_met_step y)
      (ap (λ x. block_points x.body) (out-roll-RBranch y))
      (λ flags. ap (λ (t : Take). t flags) (branch_layer b ∙ ap (λ x. items_take x.body) (out-roll-RBranch y))) (body_goes body each)

  abbrev cases : ItemCases
  cases = record {
    Of_kind = KindGoes;
    Of_alt = AltGoes;
    Of_item = ItemGoes;
    Of_branch = BranchGoes;
    assign = λ s e. form (it.Assign s e) (ItemKind-F.Assign s e) (it.rolls-Assign s e) none_taken (λ flags. take-Assign flags s e) nothing;
    add = λ s e. form (it.Add s e) (ItemKind-F.Add s e) (it.rolls-Add s e) none_taken (λ flags. take-Add flags s e) nothing;
    del = λ s e. form (it.Del s e) (ItemKind-F.Del s e) (it.rolls-Del s e) none_taken (λ flags. take-Del flags s e) nothing;
    send = λ m e. form (it.Send m e) (ItemKind-F.Send m e) (it.rolls-Send m e) none_taken (λ flags. take-Send flags m e) nothing;
    output = λ e. form (it.Output e) (ItemKind-F.Output e) (it.rolls-Output e) none_taken (λ flags. take-Output flags e) nothing;
    if_one = if_goes;
    while = λ e body each. form (it.While e body) (ItemKind-F.While e body) (it.rolls-While e body) (items_take body) (λ flags. take-While flags e body) (body_goes body each);
    for = λ s e body each. form (it.For s e body) (ItemKind-F.For s e body) (it.rolls-For s e body) (items_take body) (λ flags. take-For flags s e body) (body_goes body each);
    call = λ args body each. form (it.Call args body) (ItemKind-F.Call args body) (it.rolls-Call args body) (items_take body) (λ flags. take-Call flags args body) (body_goes body each);
    await = await_goes;
    label = λ l. form (it.Label l) (ItemKind-F.Label l) (it.rolls-Label l) (λ flags. record { waits = at_label l ∷ []; left = flags }) (λ flags. take-Label flags l) (labels l);
    pass = form it.Pass ItemKind-F.Pass it.rolls-Pass none_taken take-Pass nothing;
    alt = alt_goes;
    item = item_goes;
    branch = branch_goes;
  }

  -- CLASSES

  through : {A : Type 0} (met : A → List Met) (points : A → Points) (take : A → Take) (xs : List A) → ((x : A) → Goes (met x) (points x) (take x)) → Goes (flat_map met xs) (flat_map points xs) (all_taken (map take xs))
  through met points take [] each = nothing
  through met points take (x ∷ xs) each =
      both_go (met x) (flat_map met xs) (points x) (flat_map points xs) (take x) (all_taken (map take xs)) (each x) (through met points take xs each)

  items_go : (items : List Item) → Goes (flat_map item_met items) (flat_map points_in items) (items_take items)
  items_go items = through item_met points_in item_take items (item_induction cases)

  class_goes : (class : Class) → Goes (class_met class) (class_points class) (class_take class)
  class_goes class =
      both_go (flat_map item_met class.run) (flat_map (λ h. flat_map item_met h.body) class.handlers) (flat_map points_in class.run) (flat_map (λ h. flat_map points_in h.body) class.handlers)
      (items_take class.run) (all_taken (map handler_take class.handlers)) (items_go class.run)
      (through (λ (h : Handler). flat_map item_met h.body) (λ h. flat_map points_in h.body) handler_take class.handlers (λ h. items_go h.body))

  -- at each yield point
  of_point : (o : Option Wait) (point : Point) → Together IsAwaited o (Some point) → (own : Wait) × (o ≡ Some own) × IsAwaited own point
  of_point None point both = absurd both
  of_point (Some own) point both = (own, refl, both)

  point_waits : (class : Class) (flags : List ℕ) → AllZip R (awaited (class_met class)) flags → (k : ℕ) (point : Point) → IsNumbered class k point
      → (own : Wait) × (slice_get (waits_of class flags) k ≡ Some own) × IsAwaited own point
  point_waits class flags all k point numbered =
      let told = class_goes class [] flags (subst (λ met. AllZip R (awaited met) flags) (sym (append-nil (class_met class))) all) in
      of_point (slice_get (waits_of class flags) k) point
      (subst (Together IsAwaited (slice_get (waits_of class flags) k)) numbered (zipped_at IsAwaited (waits_of class flags) (class_points class) told.waits k))

-- BY THE PLAN OF THE CLASS

-- the flag has a row exactly where the condition holds
abbrev Tells : List Node → Cond → ℕ → Type 0
Tells nodes b flag = (d : Data) → has_row (node_rows d nodes flag) ≡ holds d b []

each_tells : (nodes : List Node) (bs : List Cond) (flags : List ℕ) → ((d : Data) → AllZip (TellsFlag d nodes) bs flags) → AllZip (Tells nodes) bs flags
each_tells nodes [] [] all = tt
each_tells nodes [] (flag ∷ flags) all = absurd (all (record { me = 0; slots = []; sent = []; received = []; clock = 0 }))
each_tells nodes (b ∷ bs) [] all = absurd (all (record { me = 0; slots = []; sent = []; received = []; clock = 0 }))
each_tells nodes (b ∷ bs) (flag ∷ flags) all = (λ d. (all d).0.row, each_tells nodes bs flags (λ d. (all d).1))

-- it finds and binds the same as an alternative of the text, and its flag tells whether the condition holds
pub record IsAlternative (class : Class) (alternative : Alternative) (a : Alt) : Type 0 where
  pub found : alternative.found ≡ (out-Alt a).found
  pub binds : alternative.binds ≡ (out-Alt a).binds
  pub row : (d : Data) → has_row (node_rows d (norm_class class).nodes alternative.flag) ≡ holds d (out-Alt a).cond []

are_alternatives : (class : Class) (own : List Alternative) (alts : List Alt) → AllZip (IsWay (Tells (norm_class class).nodes)) own (ways_of alts) → AllZip (IsAlternative class) own alts
are_alternatives class [] [] all = tt
are_alternatives class [] (a ∷ alts) all = absurd all
are_alternatives class (alternative ∷ own) [] all = absurd all
are_alternatives class (alternative ∷ own) (a ∷ alts) all = (record { found = all.0.found; binds = all.0.binds; row = all.0.flag }, are_alternatives class own alts all.1)

waits_at : (class : Class) (k : ℕ) (point : Point) → IsNumbered class k point
    → (own : Wait) × (slice_get (waits_of class (norm_class class).flags) k ≡ Some own) × IsAwaited (Tells (norm_class class).nodes) own point
waits_at class k point numbered =
    let plan = norm_class class in
    point_waits (Tells plan.nodes) class plan.flags (each_tells plan.nodes (awaited (class_met class)) plan.flags (class_law class).flags) k point numbered

-- what is waited for at an `await`: there is one for each of its alternatives, in their order
pub record IsWait (class : Class) (own : Wait) (alts : List Alt) (timed : Bool) (label : Option ℕ) : Type 0 where
  pub alternatives : AllZip (IsAlternative class) own.alternatives alts
  pub timed_is : own.has_timeout ≡ timed
  pub label_is : own.label ≡ label

pub await_waits : (class : Class) (k : ℕ) (alts : List Alt) (timed : Bool) (label : Option ℕ) → IsNumbered class k (AtAwait (ways_of alts) timed label)
    → (own : Wait) × (slice_get (waits_of class (norm_class class).flags) k ≡ Some own) × IsWait class own alts timed label
await_waits class k alts timed label numbered =
    let (own, there, all) = waits_at class k (AtAwait (ways_of alts) timed label) numbered in
    (own, there, record { alternatives = are_alternatives class own.alternatives alts all.alternatives; timed_is = all.timed_is; label_is = all.label_is })

-- at a label there are no alternatives
pub label_waits : (class : Class) (k l : ℕ) → IsNumbered class k (AtLabel l) → slice_get (waits_of class (norm_class class).flags) k ≡ Some (at_label l)
label_waits class k l numbered = let (own, there, is) = waits_at class k (AtLabel l) numbered in there ∙ ap Some is
