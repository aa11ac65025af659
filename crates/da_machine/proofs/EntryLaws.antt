-- Code that stands at a yield point goes on at the entries of it.
use Rattle.std.proofs.Common.{◌≡◌, ℕ, zero, suc, ◌+◌, List, [], ◌∷◌, ◌++◌, length, map, Option, Some, None, refl, sym, ap, ◌∙◌, subst, arith}
use Rattle.std.specs.Prelude.{slice_get, true, false, is_some, option_to_list}
use Rattle.da_values.specs.declared.val.Val.{Val}
use Rattle.da_lang.specs.declared.code.Instr.{Instr}
use Rattle.da_lang.specs.declared.code.Instr.TheVariants as op
use Rattle.da_lang.specs.declared.program.Alt.{Alt}
use Rattle.da_lang.specs.declared.program.Class.{Class}
use Rattle.da_lang.specs.declared.program.Item.{Item}
use Rattle.da_lang.specs.declared.program.ItemKind.TheOpen as kind
use Rattle.da_lang.specs.declared.program.ItemKind.TheViews.{out-Alt}
use Rattle.da_lang.specs.Shaped.{blocks_in}
use Rattle.da_lang.specs.Turns.{do_all}
use Rattle.da_lang.specs.World.{Task, Do}
use Rattle.da_machine.specs.declared.code.Code.{Code}
use Rattle.da_machine.specs.CodeFor.{Has, BlocksAt, CodeFor, ItemAt, LoopAt}
use Rattle.da_machine.specs.Entries.{EntersEach, IsPoint}
use Rattle.da_machine.specs.Points.{AtLabel, AtAwait, ways_of, IsNumbered}
use Rattle.da_machine.proofs.TurnCode.{block_for}

-- the block of an alternative stands at the place of the alternative, that for the time that runs out after all of them
alternative_block : (alts : List Alt) (more : List (List Item)) (n : ℕ) (a : Alt) → slice_get alts n ≡ Some a → slice_get (map (λ a. (out-Alt a).body) alts ++ more) n ≡ Some (out-Alt a).body
alternative_block [] more n a there = absurd (let none : ◌≡◌ {A = Option Alt} None (Some a) = there in cc)
alternative_block (b ∷ alts) more zero a there = let same : b ≡ a = cc in ap (λ x. Some (out-Alt x).body) same
alternative_block (b ∷ alts) more (suc n) a there = alternative_block alts more n a there

last_block : (alts : List Alt) (body : List Item) → slice_get (map (λ a. (out-Alt a).body) alts ++ body ∷ []) (length alts) ≡ Some body
last_block [] body = refl
last_block (a ∷ alts) body = last_block alts body

block_count : (alts : List Alt) (more : List (List Item)) → length (map (λ a. (out-Alt a).body) alts ++ more) ≡ length alts + length more
block_count [] more = omega arith
block_count (a ∷ alts) more = omega (arith, block_count alts more)

module _ (code : Code) (class : Class) where
  -- the entry of alternative n, counted from 0, is that at place n
  pub alternative_entry : (loops : List (List Val)) (todo : List Task) (alts : List Alt) (timeout : Option (List Item)) (label : Option ℕ) (entries : List ℕ)
      → EntersEach code class loops todo (blocks_in (kind.Await alts timeout label)) entries
      → (n : ℕ) (a : Alt) → slice_get alts n ≡ Some a → (entry : ℕ) × (slice_get entries n ≡ Some entry) × CodeFor code class entry loops (do_all (out-Alt a).body todo)
  alternative_entry loops todo alts timeout label entries enters n a there =
      enters.stands n (out-Alt a).body (alternative_block alts (option_to_list timeout) n a there)

  -- the entry of the block for the time that runs out is that after those of all alternatives
  pub timeout_entry : (loops : List (List Val)) (todo : List Task) (alts : List Alt) (body : List Item) (label : Option ℕ) (entries : List ℕ)
      → EntersEach code class loops todo (blocks_in (kind.Await alts (Some body) label)) entries
      → (entry : ℕ) × (slice_get entries (length alts) ≡ Some entry) × CodeFor code class entry loops (do_all body todo)
  timeout_entry loops todo alts body label entries enters = enters.stands (length alts) body (last_block alts body)

  -- so it is the last one, and without such a block there are no others than those of the alternatives
  pub entry_count : (loops : List (List Val)) (todo : List Task) (alts : List Alt) (timeout : Option (List Item)) (label : Option ℕ) (entries : List ℕ)
      → EntersEach code class loops todo (blocks_in (kind.Await alts timeout label)) entries → length entries ≡ length alts + length (option_to_list timeout)
  entry_count loops todo alts timeout label entries enters = enters.one_each ∙ block_count alts (option_to_list timeout)

  -- each block has its entry
  entry_each : (exit at : ℕ) (bodies : List (List Item)) (entries : List ℕ) → BlocksAt code class exit at bodies entries → length entries ≡ length bodies
  entry_each _ _ _ _ (BlocksAt.done {exit}) = refl
  entry_each _ _ _ _ (BlocksAt.block {exit} {at} {end} {body} {bodies} {entries} block leave others) = ap suc (entry_each exit (end + 1) bodies entries others)

  block_entry : (exit at : ℕ) (bodies : List (List Item)) (entries : List ℕ) → BlocksAt code class exit at bodies entries → (loops : List (List Val)) (todo : List Task) → CodeFor code class exit loops todo
      → (n : ℕ) (body : List Item) → slice_get bodies n ≡ Some body → (entry : ℕ) × (slice_get entries n ≡ Some entry) × CodeFor code class entry loops (do_all body todo)
  block_entry _ _ _ _ (BlocksAt.done {exit}) loops todo code_for n body there = absurd (let none : ◌≡◌ {A = Option (List Item)} None (Some body) = there in cc)
  block_entry _ _ _ _ (BlocksAt.block {exit} {at} {end} {body = first} {bodies} {entries} block leave others) loops todo code_for zero body there =
      let same : first ≡ body = cc in
      (at, refl, subst (λ x. CodeFor code class at loops (do_all x todo)) same (block_for class code at first end block loops todo (CodeFor.jumps leave code_for)))
  block_entry _ _ _ _ (BlocksAt.block {exit} {at} {end} {body = first} {bodies} {entries} block leave others) loops todo code_for (suc n) body there =
      block_entry exit (end + 1) bodies entries others loops todo code_for n body there

  one_instr : (at : ℕ) (i j : Instr) → Has code at i → Has code at j → Some i ≡ Some j
  one_instr at i j here there = sym here ∙ there

  same_number : (at k j : ℕ) → Has code at (op.Yield k) → Has code at (op.Yield j) → j ≡ k
  same_number at k j here there = let e = one_instr at (op.Yield j) (op.Yield k) there here in cc

  item_point : (at : ℕ) (i : Item) (end : ℕ) → ItemAt code class at i end → (k : ℕ) → Has code at (op.Yield k) → (loops : List (List Val)) (todo : List Task) → CodeFor code class end loops todo → IsPoint code class k loops (Do i ∷ todo)
  item_point _ _ _ (ItemAt.works {at} {end} {i} has work) k here loops todo code_for = absurd (let e = one_instr at _ _ has here in cc)
  item_point _ _ _ (ItemAt.label {at} {k = j} {l} {i} is has point numbered) k here loops todo code_for =
      let same : j ≡ k = same_number at k j here has in
      IsPoint.at_label i todo l (at + 1) is (subst (λ n. slice_get code.yields n ≡ Some (record { label = true; entries = (at + 1) ∷ [] })) same point)
      (subst (λ n. IsNumbered class n (AtLabel l)) same numbered) code_for
  item_point _ _ _ (ItemAt.await {at} {end} {k = j} {i} {alts} {timeout} {l} {entries} is has point numbered blocks) k here loops todo code_for =
      let same : j ≡ k = same_number at k j here has in
      let bodies = blocks_in (kind.Await alts timeout l) in
      IsPoint.at_await i todo alts timeout l entries is (subst (λ n. slice_get code.yields n ≡ Some (record { label = false; entries = entries })) same point)
      (subst (λ n. IsNumbered class n (AtAwait (ways_of alts) (is_some timeout) l)) same numbered)
      (record {
        one_each = entry_each end (at + 1) bodies entries blocks;
        stands = block_entry end (at + 1) bodies entries blocks loops todo code_for;
      })

  -- where the code stands for what is to do at a yield point, it stands at the entries for what a move leaves
  pub at_point : (at : ℕ) (loops : List (List Val)) (todo : List Task) → CodeFor code class at loops todo → (k : ℕ) → Has code at (op.Yield k) → IsPoint code class k loops todo
  at_point _ _ _ (CodeFor.ends {at} has) k here = absurd (let e = one_instr at _ _ has here in cc)
  at_point _ _ _ (CodeFor.jumps {at} {to} has code_for) k here = absurd (let e = one_instr at _ _ has here in cc)
  at_point _ _ _ (CodeFor.does {at} {to} {loops} {i} {todo} x code_for) k here = item_point at i to x k here loops todo code_for
  at_point _ _ _ (CodeFor.loops {at} (LoopAt.loop has turn block back) code_for) k here = absurd (let e = one_instr at _ _ has here in cc)
  at_point _ _ _ (CodeFor.prepares {at} has entry code_for) k here = absurd (let e = one_instr at _ _ has here in cc)
