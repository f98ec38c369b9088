-- The numbers, the words and the values of refusals.
use Rattle.std.specs.Prelude.{ℕ, List, [], ◌∷◌, codes}
use Rattle.hb_base.specs.declared.name_id.NameId.{NameId}
use Rattle.hb_base.specs.declared.count.Count.{Count}
use Rattle.hb_term.specs.declared.scoped.Scoped.{Scoped}
use Rattle.hb_env.specs.declared.refusal.What.{What}
use Rattle.hb_env.specs.declared.refusal.What.TheVariants.{NotYet, Utf8, Lex, Syntax, TooDeep, TooMany, FileTooLong, Absent, UnknownName, Redeclared, ReservedName, NotFunction, NotType, NotRecord, Stuck, NoInstance, Unsolved, NotConvertible, LevelTooHigh, UnknownFactory, Unfinished, MissingMixin, EmptyStructure, SameStructure, AboveDeclared, MissingJoin, Incoherent, NotCarrier, SectionOpen, NoSection, BadLibrary, RequireCycle, Finished, LostName, NeedsMore, GivesLess, StructureLost, StructureChanged, FieldsChanged, CoreSyntax, Unmet, NotationClash, BadCertificate, Circular, Untyped, Spent, Moves, NoMemory}

-- how a refusal is told: by a number and a word, as a budget that is spent on a term, as steps that are
-- used up, or not at all
pub data Telling : Type 0 where
  numbered : ℕ → List ℕ → Telling
  spent : Telling
  used_up : Telling
  untold : Telling

abbrev pub title : What → Telling
title NotYet = numbered 0 (codes "NotYet")
title Utf8 = numbered 1 (codes "Utf8")
title Lex = numbered 2 (codes "Lex")
title Syntax = numbered 3 (codes "Syntax")
title TooDeep = numbered 4 (codes "TooDeep")
title (TooMany c) = numbered 5 (codes "TooMany")
title FileTooLong = numbered 6 (codes "FileTooLong")
title Absent = numbered 7 (codes "Absent")
title (UnknownName m) = numbered 8 (codes "UnknownName")
title (Redeclared m) = numbered 9 (codes "Redeclared")
title (ReservedName m) = numbered 10 (codes "ReservedName")
title (NotFunction t) = numbered 11 (codes "NotFunction")
title (NotType t) = numbered 12 (codes "NotType")
title (NotRecord t) = numbered 13 (codes "NotRecord")
title (Stuck t u) = numbered 14 (codes "Stuck")
title (NoInstance m t) = numbered 15 (codes "NoInstance")
title Unsolved = numbered 16 (codes "Unsolved")
title (NotConvertible t u) = numbered 17 (codes "NotConvertible")
title LevelTooHigh = numbered 18 (codes "LevelTooHigh")
title (UnknownFactory m) = numbered 19 (codes "UnknownFactory")
title (Unfinished m) = numbered 20 (codes "Unfinished")
title (MissingMixin m) = numbered 21 (codes "MissingMixin")
title EmptyStructure = numbered 22 (codes "EmptyStructure")
title (SameStructure m) = numbered 23 (codes "SameStructure")
title (AboveDeclared m) = numbered 24 (codes "AboveDeclared")
title (MissingJoin m n k) = numbered 25 (codes "MissingJoin")
title (Incoherent m n t u) = numbered 26 (codes "Incoherent")
title (NotCarrier m) = numbered 27 (codes "NotCarrier")
title SectionOpen = numbered 28 (codes "SectionOpen")
title NoSection = numbered 29 (codes "NoSection")
title BadLibrary = numbered 30 (codes "BadLibrary")
title (RequireCycle m) = numbered 31 (codes "RequireCycle")
title (Finished m) = numbered 32 (codes "Finished")
title (LostName m) = numbered 33 (codes "LostName")
title (NeedsMore m n) = numbered 34 (codes "NeedsMore")
title (GivesLess m n) = numbered 35 (codes "GivesLess")
title (StructureLost m) = numbered 36 (codes "StructureLost")
title (StructureChanged m n) = numbered 37 (codes "StructureChanged")
title (FieldsChanged m) = numbered 38 (codes "FieldsChanged")
title CoreSyntax = numbered 39 (codes "CoreSyntax")
title (Unmet m n k) = numbered 40 (codes "Unmet")
title (NotationClash m) = numbered 41 (codes "NotationClash")
title BadCertificate = numbered 42 (codes "BadCertificate")
title (Circular t) = numbered 43 (codes "Circular")
title (Untyped t) = numbered 44 (codes "Untyped")
title (Spent t) = spent
title Moves = used_up
title NoMemory = untold

-- a value that is printed
pub data Printed : Type 0 where
  by_name : NameId → Printed
  by_term : Scoped → Printed
  by_count : Count → Printed

-- the values of a refusal, in their order
abbrev pub values : What → List Printed
values NotYet = []
values Utf8 = []
values Lex = []
values Syntax = []
values TooDeep = []
values (TooMany c) = by_count c ∷ []
values FileTooLong = []
values Absent = []
values (UnknownName m) = by_name m ∷ []
values (Redeclared m) = by_name m ∷ []
values (ReservedName m) = by_name m ∷ []
values (NotFunction t) = by_term t ∷ []
values (NotType t) = by_term t ∷ []
values (NotRecord t) = by_term t ∷ []
values (Stuck t u) = by_term t ∷ by_term u ∷ []
values (NoInstance m t) = by_name m ∷ by_term t ∷ []
values Unsolved = []
values (NotConvertible t u) = by_term t ∷ by_term u ∷ []
values LevelTooHigh = []
values (UnknownFactory m) = by_name m ∷ []
values (Unfinished m) = by_name m ∷ []
values (MissingMixin m) = by_name m ∷ []
values EmptyStructure = []
values (SameStructure m) = by_name m ∷ []
values (AboveDeclared m) = by_name m ∷ []
values (MissingJoin m n k) = by_name m ∷ by_name n ∷ by_name k ∷ []
values (Incoherent m n t u) = by_name m ∷ by_name n ∷ by_term t ∷ by_term u ∷ []
values (NotCarrier m) = by_name m ∷ []
values SectionOpen = []
values NoSection = []
values BadLibrary = []
values (RequireCycle m) = by_name m ∷ []
values (Finished m) = by_name m ∷ []
values (LostName m) = by_name m ∷ []
values (NeedsMore m n) = by_name m ∷ by_name n ∷ []
values (GivesLess m n) = by_name m ∷ by_name n ∷ []
values (StructureLost m) = by_name m ∷ []
values (StructureChanged m n) = by_name m ∷ by_name n ∷ []
values (FieldsChanged m) = by_name m ∷ []
values CoreSyntax = []
values (Unmet m n k) = by_name m ∷ by_name n ∷ by_name k ∷ []
values (NotationClash m) = by_name m ∷ []
values BadCertificate = []
values (Circular t) = by_term t ∷ []
values (Untyped t) = by_term t ∷ []
values (Spent t) = by_term t ∷ []
values Moves = []
values NoMemory = []
