-- Trees, and programs, that are equal but for the types that stand in them.
use Rattle.std.specs.Prelude.{◌≡◌, Option, Some}
use Rattle.da_lang.specs.declared.program.Class.{Class}
use Rattle.da_lang.specs.declared.program.Program.{Program}
use Rattle.da_lang.specs.declared.tree.ClassTree.{ClassTree}
use Rattle.da_lang.specs.declared.tree.Member.{Member}
use Rattle.da_lang.specs.declared.tree.MessageDecl.{MessageDecl}
use Rattle.da_lang.specs.declared.tree.Param.{Param}
use Rattle.da_lang.specs.declared.tree.Tree.{Tree}
use Rattle.da_lang.specs.declared.ty.Ty.{Ty}
use Rattle.da_lang.specs.ClassParts.{Body, Variable, body_in, variable_in}
use Rattle.untyped_laws.specs.Beside.{Beside, Both}

-- how the types on the one side have to do with those on the other, where there is a type and where there is none
module _ (R : Option Ty → Option Ty → Type 0) where
  abbrev pub TypesAlike : Ty → Ty → Type 0
  TypesAlike x y = R (Some x) (Some y)

  pub record ParamsAlike (p q : Param) : Type 0 where
    pub name : p.name ≡ q.name
    pub ty : TypesAlike p.ty q.ty

  pub record VariablesAlike (v w : Variable) : Type 0 where
    pub name : v.name ≡ w.name
    pub ty : TypesAlike v.ty w.ty
    pub line : v.line ≡ w.line

  -- what has a body: its parameters have other types
  pub record BodiesAlike (b c : Body) : Type 0 where
    pub place : b.place ≡ c.place
    pub params : Beside ParamsAlike b.params c.params
    pub stmts : b.stmts ≡ c.stmts
    pub line : b.line ≡ c.line

  -- a member is a variable, or it has a body
  pub record MembersAlike (x y : Member) : Type 0 where
    pub variable : Both VariablesAlike (variable_in x) (variable_in y)
    pub body : Both BodiesAlike (body_in x) (body_in y)

  pub record ClassesAlike (c d : ClassTree) : Type 0 where
    pub name : c.name ≡ d.name
    pub members : Beside MembersAlike c.members d.members
    pub line : c.line ≡ d.line

  pub record MessagesAlike (x y : MessageDecl) : Type 0 where
    pub tag : x.tag ≡ y.tag
    pub parts : Beside TypesAlike x.parts y.parts
    pub line : x.line ≡ y.line

  pub record TreesAlike (t u : Tree) : Type 0 where
    pub kind : t.kind ≡ u.kind
    pub messages : Beside MessagesAlike t.messages u.messages
    pub classes : Beside ClassesAlike t.classes u.classes
    pub main : t.main ≡ u.main

  -- resolved classes are equal but for the types of their slots
  pub record ResolvedAlike (c d : Class) : Type 0 where
    pub name : c.name ≡ d.name
    pub slots : Beside R c.slots d.slots
    pub params : c.params ≡ d.params
    pub setup : c.setup ≡ d.setup
    pub run : c.run ≡ d.run
    pub handlers : c.handlers ≡ d.handlers
    pub queries : c.queries ≡ d.queries
    pub line : c.line ≡ d.line

  pub record ProgramsAlike (p q : Program) : Type 0 where
    pub kind : p.kind ≡ q.kind
    pub messages : Beside MessagesAlike p.messages q.messages
    pub classes : Beside ResolvedAlike p.classes q.classes
    pub procs : p.procs ≡ q.procs
