-- A function has taken each declared type to another one.
use Rattle.std.specs.Prelude.{◌≡◌, refl, ℕ, List, [], ◌∷◌, map, Option, option_map, unwrap_or}
use Rattle.std.proofs.Common.{◌∙◌, ap, ap₂, sym}
use Rattle.da_lang.specs.declared.program.Class.{Class}
use Rattle.da_lang.specs.declared.program.Handler.{Handler}
use Rattle.da_lang.specs.declared.program.Item.{Item}
use Rattle.da_lang.specs.declared.program.ProcDecl.{ProcDecl}
use Rattle.da_lang.specs.declared.program.Program.{Program}
use Rattle.da_lang.specs.declared.query.Query.{Query}
use Rattle.da_lang.specs.declared.tree.ClassTree.{ClassTree}
use Rattle.da_lang.specs.declared.tree.Member.{Member}
use Rattle.da_lang.specs.declared.tree.Member.TheVariants as member
use Rattle.da_lang.specs.declared.tree.MessageDecl.{MessageDecl}
use Rattle.da_lang.specs.declared.tree.Param.{Param}
use Rattle.da_lang.specs.declared.tree.Tree.{Tree}
use Rattle.da_lang.specs.declared.ty.ChannelKind.{ChannelKind}
use Rattle.da_lang.specs.declared.ty.Ty.{Ty}
use Rattle.da_lang.specs.Limits.{wide, limit_refusals}
use Rattle.da_lang.specs.NameRules.{name_refusals}
use Rattle.da_lang.specs.Resolution.{resolved, resolved_class}
use Rattle.da_lang.specs.Written.{type_width}
use Rattle.untyped_laws.specs.Alike.{TypesAlike, ParamsAlike, MembersAlike, ClassesAlike, MessagesAlike, TreesAlike, ResolvedAlike, ProgramsAlike}
use Rattle.untyped_laws.specs.Beside.{Beside}
use Rattle.untyped_laws.specs.Retyped.{put_param, put_member, put_class, put_message, put_tree, put_slots, put_program}
use Rattle.untyped_laws.proofs.LimitsAlike.{limits_same}
use Rattle.untyped_laws.proofs.ListLaws.{ap₄}
use Rattle.untyped_laws.proofs.NamesAlike.{names_same}
use Rattle.untyped_laws.proofs.ResolvesAlike.{class_alike, tree_resolves}

module _ (put : Ty → Ty) where
  abbrev pub Put : Option Ty → Option Ty → Type 0
  Put x y = y ≡ option_map put x

  -- the tree is beside its own
  beside_put : {A B : Type 0} (Same : A → B → Type 0) (f : A → B) → ((x : A) → Same x (f x)) → (xs : List A) → Beside Same xs (map f xs)
  beside_put Same f each [] = tt
  beside_put Same f each (x ∷ xs) = (each x, beside_put Same f each xs)

  params_put : (ps : List Param) → Beside (ParamsAlike Put) ps (map (put_param put) ps)
  params_put ps = beside_put (ParamsAlike Put) (put_param put) (λ p. record { name = refl; ty = refl }) ps

  member_put : (x : Member) → MembersAlike Put x (put_member put x)
  member_put (member.Var name ty line) = record { variable = record { name = refl; ty = refl; line = refl }; body = tt }
  member_put (member.Setup params stmts line) = record { variable = tt; body = record { place = refl; params = params_put params; stmts = refl; line = refl } }
  member_put (member.Run stmts line) = record { variable = tt; body = record { place = refl; params = tt; stmts = refl; line = refl } }
  member_put (member.Method name params stmts line) = record { variable = tt; body = record { place = refl; params = params_put params; stmts = refl; line = refl } }
  member_put (member.Receive message from labels stmts line) = record { variable = tt; body = record { place = refl; params = tt; stmts = refl; line = refl } }

  pub class_put : (c : ClassTree) → ClassesAlike Put c (put_class put c)
  class_put c = record { name = refl; members = beside_put (MembersAlike Put) (put_member put) member_put c.members; line = refl }

  message_put : (x : MessageDecl) → MessagesAlike Put x (put_message put x)
  message_put x = record { tag = refl; parts = beside_put (TypesAlike Put) put (λ ty. refl) x.parts; line = refl }

  pub tree_put : (t : Tree) → TreesAlike Put t (put_tree put t)
  tree_put t = record {
    kind = refl;
    messages = beside_put (MessagesAlike Put) (put_message put) message_put t.messages;
    classes = beside_put (ClassesAlike Put) (put_class put) class_put t.classes;
    main = refl;
  }

  -- what is beside the program is its own
  put_beside : {A B : Type 0} (Same : A → B → Type 0) (f : A → B) → ((x : A) (y : B) → Same x y → y ≡ f x) → (xs : List A) (ys : List B) → Beside Same xs ys → ys ≡ map f xs
  put_beside Same f each [] [] all = refl
  put_beside Same f each [] (y ∷ ys) all = absurd all
  put_beside Same f each (x ∷ xs) [] all = absurd all
  put_beside Same f each (x ∷ xs) (y ∷ ys) all = ap₂ (λ z zs. z ∷ zs) (each x y all.0) (put_beside Same f each xs ys all.1)

  put_type : (x y : Ty) → TypesAlike Put x y → y ≡ put x
  put_type x y e = ap (λ o. unwrap_or o y) e

  message_made : List ℕ → List Ty → ℕ → MessageDecl
  message_made tag parts line = record { tag = tag; parts = parts; line = line }

  put_messages : (x y : MessageDecl) → MessagesAlike Put x y → y ≡ put_message put x
  unfolding message_made
  put_messages x y m = ap₂ (λ tag parts. message_made tag parts y.line) (sym m.tag) (put_beside (TypesAlike Put) put put_type x.parts y.parts m.parts) ∙ ap (message_made x.tag (map put x.parts)) (sym m.line)

  class_made : List ℕ → List (Option Ty) → List ℕ → List Item → List Item → List Handler → List Query → ℕ → Class
  class_made name slots params setup run handlers queries line = record { name = name; slots = slots; params = params; setup = setup; run = run; handlers = handlers; queries = queries; line = line }

  put_resolved : (x y : Class) → ResolvedAlike Put x y → y ≡ put_slots put x
  unfolding class_made
  put_resolved x y m =
      ap₄ (λ name slots params setup. class_made name slots params setup y.run y.handlers y.queries y.line) (sym m.name) (put_beside Put (option_map put) (λ o p e. e) x.slots y.slots m.slots) (sym m.params) (sym m.setup)
      ∙ ap₄ (class_made x.name (map (option_map put) x.slots) x.params x.setup) (sym m.run) (sym m.handlers) (sym m.queries) (sym m.line)

  program_made : ChannelKind → List MessageDecl → List Class → List ProcDecl → Program
  program_made kind messages classes procs = record { kind = kind; messages = messages; classes = classes; procs = procs }

  put_whole : (p q : Program) → ProgramsAlike Put p q → q ≡ put_program put p
  unfolding program_made
  put_whole p q m =
      ap₄ program_made (sym m.kind) (put_beside (MessagesAlike Put) (put_message put) put_messages p.messages q.messages m.messages)
      (put_beside (ResolvedAlike Put) (put_slots put) put_resolved p.classes q.classes m.classes) (sym m.procs)

  pub put_class_resolves : (c : ClassTree) → resolved_class (put_class put c) ≡ put_slots put (resolved_class c)
  put_class_resolves c = put_resolved (resolved_class c) (resolved_class (put_class put c)) (class_alike Put refl c (put_class put c) (class_put c))

  pub put_resolves : (t : Tree) → resolved (put_tree put t) ≡ put_program put (resolved t)
  put_resolves t = put_whole (resolved t) (resolved (put_tree put t)) (tree_resolves Put refl t (put_tree put t) (tree_put t))

  pub put_names : (t : Tree) → name_refusals (put_tree put t) ≡ name_refusals t
  put_names t = sym (names_same Put t (put_tree put t) (tree_put t))

  pub put_limits : ((ty : Ty) → wide (type_width (put ty)) ≡ wide (type_width ty)) → (t : Tree) → limit_refusals (put_tree put t) ≡ limit_refusals t
  put_limits keeps t = sym (limits_same Put refl (λ x y e. sym (ap (λ ty. wide (type_width ty)) (put_type x y e) ∙ keeps x)) t (put_tree put t) (tree_put t))
