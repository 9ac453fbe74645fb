-- What is made of calls that ran.
use Rattle.std.proofs.Common.{◌≡◌, ℕ, Bool, List, [], ◌++◌, Option, Some, None, ap, ◌∙◌, subst}
use Rattle.ir_tree.specs.Functions.{numbered}
use Rattle.ir_tree.specs.declared.types.Function.{Function}
use Rattle.ir_tree.specs.declared.types.Module.{Module}
use Rattle.ir_model.specs.declared.result.Call.{Call}
use Rattle.ir_model.specs.declared.result.CallResult.{CallResult}
use Rattle.ir_code.specs.Units.{tallies_of}
use Rattle.value_rows.specs.declared.row.Row.{Row}
use Rattle.run_profile.specs.Ran.{AreCounted, AreNoted}
use Rattle.run_workers.specs.Calls.{results_of}
use Rattle.run_texts.specs.SiteLines.{site_lines}
use Rattle.pgo_shell.specs.Judgement.{Made}
use Rattle.command_run.specs.Outcomes.{first_unreturned, outcomes}
use Rattle.command_run.specs.Run.{AreProfiles, RunMakes, output_for}
use Rattle.command_run.specs.Told.{first_is, first_told, told_from, told_is}

module _ (places : ℕ) (profile : Option (List ℕ)) (entry_first : Bool) (m : Module) (steps : ℕ) (calls : List Call) (results : List CallResult) (counters : List ℕ) (rows : List Row)
    (are : results ≡ results_of m steps calls) (counted : AreCounted m steps calls counters) (noted : AreNoted m steps calls places rows) where
  first_of : (o : Option (List ℕ)) → o ≡ first_told 0 results → o ≡ first_unreturned m steps 0 calls
  first_of o is = is ∙ ap (λ rs. first_told 0 rs) are ∙ first_is m steps 0 calls

  told_of : (functions : List Function) (out : List ℕ) → functions ≡ numbered m.functions → out ≡ told_from functions 0 calls results → out ≡ outcomes m steps 0 calls
  told_of functions out same is = is ∙ ap (λ fs. told_from fs 0 calls results) same ∙ ap (λ rs. told_from (numbered m.functions) 0 calls rs) are ∙ told_is m steps 0 calls

  pub halted_makes : (functions : List Function) (line out : List ℕ) (files : List (List ℕ)) → functions ≡ numbered m.functions → Some line ≡ first_told 0 results → out ≡ told_from functions 0 calls results →
      RunMakes places profile entry_first m steps calls (record { halted = Some line; output = out; written = files })
  halted_makes functions line out files same first told = record {
    counters = counters;
    rows = rows;
    counted = counted;
    noted = noted;
    halts = first_of (Some line) first;
    shows = told_of functions out same told ∙ ap (λ (halt : Option (List ℕ)). output_for halt m steps calls rows) (first_of (Some line) first);
    writes = λ none. absurd (some_none none);
  }
    where
      some_none : Some line ≡ None → ⊥
      some_none e = cc

  pub finished_makes : (functions : List Function) (halted : Option (List ℕ)) (out all : List ℕ) (files : List (List ℕ)) → functions ≡ numbered m.functions → None ≡ first_told 0 results →
      out ≡ told_from functions 0 calls results → halted ≡ None → all ≡ out ++ site_lines (tallies_of m) rows → AreProfiles profile entry_first functions (tallies_of m) counters rows files →
      RunMakes places profile entry_first m steps calls (record { halted = halted; output = all; written = files })
  finished_makes functions halted out all files same first told none whole written = record {
    counters = counters;
    rows = rows;
    counted = counted;
    noted = noted;
    halts = none ∙ first_of None first;
    shows = whole ∙ ap (λ (o : List ℕ). o ++ site_lines (tallies_of m) rows) (told_of functions out same told) ∙ ap (λ (halt : Option (List ℕ)). output_for halt m steps calls rows) (first_of None first);
    writes = λ e. subst (λ (fs : List Function). AreProfiles profile entry_first fs (tallies_of m) counters rows files) same written;
  }
