-- A command with its arguments.
use Rattle.std.specs.Prelude.{ℕ, Bool, List, String, map, Option}
use Rattle.std.specs.Option.{option_map}
use Rattle.std.specs.String.{string_bytes}
use Rattle.std.specs.declared.alloc.Global.{Global}
use Rattle.pgo_words.specs.Parts.{Text}
use Rattle.pgo_words.specs.declared.plan.Plan.{Plan}
use Rattle.pgo_words.specs.declared.plan.Plan.TheVariants as plan
use Rattle.pgo_words.specs.declared.plan.StreamPlan.{StreamPlan}

-- the bytes of each word
abbrev pub words_of : List (String Global) → List Text
words_of words = map string_bytes words

pub record RunWords : Type 0 where
  pub «module» : Text
  pub calls : Text
  pub steps : ℕ
  pub workers : ℕ
  pub profile : Option Text
  pub entry_first : Bool
  pub places : ℕ

pub record ChainWords : Type 0 where
  pub «module» : Text
  pub calls : Text
  pub profile : Text
  pub out : Text
  pub steps : ℕ
  pub workers : ℕ
  pub entry_first : Bool
  pub places : ℕ

-- a `chain` of two files, which writes none
pub record WalkWords : Type 0 where
  pub «module» : Text
  pub calls : Text
  pub steps : ℕ

pub data Planned : Type 0 where
  Checks : (file : Text) → Planned
  Prints : (file : Text) → Planned
  Generates : (file : Text) → (out : Text) → (entry_first : Bool) → Planned
  Lowers : (file : Text) → (out : Text) → Planned
  Runs : RunWords → Planned
  Merges : (out : Text) → (inputs : List Text) → (workers : ℕ) → Planned
  Shows : (input : Text) → Planned
  ListsEdges : (file : Text) → (profile : Text) → Planned
  Annotates : (file : Text) → (profile : Text) → (out : Text) → Planned
  Promotes : (file : Text) → (profile : Text) → (out : Text) → Planned
  CountsWalks : WalkWords → Planned
  Chains : ChainWords → Planned
  MakesLarge : (number : ℕ) → (workers : ℕ) → (places : ℕ) → Planned
  LaysOut : (file : Text) → (profile : Text) → (out : Text) → (peel : ℕ) → Planned
  GrowsTree : (file : Text) → (entry_first : Bool) → Planned

-- what a plan of the code plans
abbrev pub plan_value : Plan → Planned
plan_value (plan.Check file) = Checks (string_bytes file)
plan_value (plan.Print file) = Prints (string_bytes file)
plan_value (plan.Gen file out first) = Generates (string_bytes file) (string_bytes out) first
plan_value (plan.Lower file out) = Lowers (string_bytes file) (string_bytes out)
plan_value (plan.Run file calls steps workers profile first places) = Runs (record {
  «module» = string_bytes file;
  calls = string_bytes calls;
  steps = steps;
  workers = workers;
  profile = option_map string_bytes profile;
  entry_first = first;
  places = places;
})
plan_value (plan.Merge out inputs workers) = Merges (string_bytes out) (words_of inputs.items) workers
plan_value (plan.Show input) = Shows (string_bytes input)
plan_value (plan.Edges file profile) = ListsEdges (string_bytes file) (string_bytes profile)
plan_value (plan.Annotate file profile out) = Annotates (string_bytes file) (string_bytes profile) (string_bytes out)
plan_value (plan.Promote file profile out) = Promotes (string_bytes file) (string_bytes profile) (string_bytes out)
plan_value (plan.Walks file calls steps) =
    CountsWalks (record { «module» = string_bytes file; calls = string_bytes calls; steps = steps })
plan_value (plan.Chain file calls profile out steps workers first places) = Chains (record {
  «module» = string_bytes file;
  calls = string_bytes calls;
  profile = string_bytes profile;
  out = string_bytes out;
  steps = steps;
  workers = workers;
  entry_first = first;
  places = places;
})
plan_value (plan.Large number workers places) = MakesLarge number workers places
plan_value (plan.Layout file profile out peel) = LaysOut (string_bytes file) (string_bytes profile) (string_bytes out) peel
plan_value (plan.Tree file first) = GrowsTree (string_bytes file) first

-- the command `stream`
pub record StreamWords : Type 0 where
  pub «module» : Text
  pub calls : Text
  pub steps : ℕ
  pub workers : ℕ
  pub room : ℕ

abbrev pub stream_value : StreamPlan → StreamWords
stream_value p = record {
  «module» = string_bytes p.«module»;
  calls = string_bytes p.calls;
  steps = p.steps;
  workers = p.workers;
  room = p.room;
}
