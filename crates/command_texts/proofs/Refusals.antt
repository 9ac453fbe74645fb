-- A refusal of the code is one of the judgement.
use Rattle.std.proofs.Common.{◌≡◌, ◌∙◌, ℕ, ◌≤◌, List, [], ◌++◌, length, Ok, Err, None, Some, inl, inr, refl, subst, sym, ap, append_assoc}
use Rattle.std.specs.Prelude.{Result, IfOk, IfErr, ◌↔◌, codes, decimal}
use Rattle.std.proofs.lemmas.Option.{none-some}
use Rattle.ir_check.specs.Refused.{IsRefusedFor}
use Rattle.ir_check.specs.declared.errors.CheckError.{CheckError}
use Rattle.ir_check.specs.declared.errors.CheckError.TheVariants as errors
use Rattle.ir_rules.specs.Accepted.{IsAccepted}
use Rattle.ir_rules.specs.AllRules.{all_broken}
use Rattle.ir_rules.specs.Kinds.{kind_of}
use Rattle.ir_rules.specs.Limits.{passed}
use Rattle.ir_rules.specs.declared.place.Kind.{Kind}
use Rattle.ir_rules.specs.declared.place.Kind.TheVariants.{Plain, Counted, Lowered}
use Rattle.ir_rules.specs.WellFormed.{IsWellFormed}
use Rattle.ir_tree.specs.declared.types.Module.{Module}
use Rattle.call_list.specs.Reading.{Answers, meanings}
use Rattle.call_list.specs.declared.error.CallsError.{CallsError}
use Rattle.pgo_shell.specs.Judgement.{Judgement}
use Rattle.pgo_shell.specs.Product.{RefusedBy}
use Rattle.pgo_shell.specs.declared.command.Refusal.{Refusal}
use Rattle.pgo_shell.specs.declared.command.Refusal.TheVariants as refusal
use Rattle.ir_read.specs.Spelled as reading
use Rattle.ir_read.specs.Spelled.{SpellsText}
use Rattle.ir_read.specs.declared.error.ReadError.TheVariants as read_error
use Rattle.command_texts.specs.Calls.{calls_on}
use Rattle.command_texts.specs.Program.{IsTheProgram, is_plain, kind_word, program}
use Rattle.command_lines.specs.Says.{RefusedWith}
use Rattle.command_texts.specs.CheckLines.{OfModule}
use Rattle.command_texts.specs.Says.{SaysCalls, SaysCheck, SaysNotAccepted}
use Rattle.spec_lists.specs.Each.{first_of}

-- a refusal with these bytes is one of a judgement that refuses with them
pub refused_by : {V K : Type 0} {key : V → K} (judgement : Judgement V K key) (bytes : List ℕ) (r : Refusal) → RefusedWith bytes r → judgement.refuses bytes → RefusedBy judgement r
refused_by judgement bytes (refusal.Text line) says refuses = subst judgement.refuses (sym says) refuses
refused_by judgement bytes refusal.NoMemory says refuses = tt

pub bad_calls : (file text : List ℕ) (m : Module) (e : CallsError) (r : Refusal) → SaysCalls file e r → Answers (length text) (meanings m text) (Err e) →
    RefusedBy (calls_on file m text) r
bad_calls file text m e (refusal.Text line) says answers = (e, says.0, answers, says.1)
bad_calls file text m e refusal.NoMemory says answers = tt

-- a text that spells no module
pub broken : (file text : List ℕ) (at : ℕ) (r : Refusal) → RefusedWith (file ++ codes ": syntax at byte " ++ decimal at) r → reading.Refuses text (read_error.Syntax at) → RefusedBy (program file text) r
broken file text at r says refused =
    refused_by (program file text) (file ++ codes ": syntax at byte " ++ decimal at) r says (inr (inl (at, (refused.0, refused.1, refused.2, refl))))

pub too_long : (file text : List ℕ) (found : ℕ) (r : Refusal) → RefusedWith (file ++ codes ": too long") r → reading.Refuses text (read_error.TextLimit found) → RefusedBy (program file text) r
too_long file text found r says refused =
    refused_by (program file text) (file ++ codes ": too long") r says (inl (refused.1, refl))

not_accepted : (file text : List ℕ) (m : Module) (r : Refusal) → SaysNotAccepted file m r → SpellsText text m → RefusedBy (program file text) r
not_accepted file text m (refusal.Text line) says spelled = inr (inr (m, says.0, (spelled, says.1.0, says.1.1)))
not_accepted file text m refusal.NoMemory says spelled = tt

-- what the check of the module that the text spells gives
pub program_refused : (file text : List ℕ) (m : Module) (r : Result Module Refusal) → IfErr r (λ why. SaysNotAccepted file m why) → SpellsText text m → IfErr r (RefusedBy (program file text))
program_refused file text m (Ok n) says spelled = tt
program_refused file text m (Err why) says spelled = not_accepted file text m why says spelled

pub program_found : (text : List ℕ) (m : Module) (r : Result Module Refusal) → IfOk r (λ n. (n ≡ m) × IsAccepted n) → SpellsText text m → length text ≤ reading.most_bytes → ((x y : Module) → SpellsText text x → SpellsText text y → x ≡ y) → IfOk r (λ n. IsTheProgram text n)
program_found text m (Ok n) found spelled fits once =
    let its = subst (SpellsText text) (sym found.0) spelled in
    record {
      is = record { fits = fits; spelled = its; accepted = found.1 };
      only = λ x h. once x n h its;
    }
program_found text m (Err why) found spelled fits once = tt

-- ---- a module that is refused is not accepted

none_first : {Y : Type 0} (ys : List Y) (y : Y) → ys ≡ [] → first_of ys ≡ Some y → ⊥
none_first ys y none first = none-some y (sym (ap first_of none) ∙ first)

refuted : (m : Module) (e : CheckError) → ((n : Module) → (all_broken n ≡ []) ↔ IsWellFormed n) → OfModule e → IsRefusedFor m e → IsAccepted m → ⊥
refuted m (errors.Limit which found) ties of why accepted = none_first (passed m) (which, found) accepted.within why
refuted m (errors.Broken rule place) ties of why accepted = none_first (all_broken m) (rule, place) ((ties m).1 accepted.formed) why.1
refuted m errors.NoMemory ties of why accepted = of

pub says_not_accepted : (file : List ℕ) (m : Module) (e : CheckError) (r : Refusal) → ((n : Module) → (all_broken n ≡ []) ↔ IsWellFormed n) → IsRefusedFor m e → SaysCheck file e r → SaysNotAccepted file m r
says_not_accepted file m e (refusal.Text line) ties why says = (e, (record { of_module = says.0; not = refuted m e ties says.0 why; why = why }, says.1))
says_not_accepted file m e refusal.NoMemory ties why says = tt

-- ---- a module of another kind is refused

pub counted_is_not_plain : Counted ≡ Plain → ⊥
counted_is_not_plain e = cc

pub lowered_is_not_plain : Lowered ≡ Plain → ⊥
lowered_is_not_plain e = cc

pub wrong_kind : (file : List ℕ) (m : Module) (kind : Kind) (r : Refusal) → kind ≡ kind_of m.functions → (kind ≡ Plain → ⊥) → RefusedWith (file ++ (codes ": wrong kind " ++ kind_word kind)) r → RefusedBy (is_plain file m) r
wrong_kind file m kind r is other says =
    refused_by (is_plain file m) (file ++ codes ": wrong kind " ++ kind_word kind) r (subst (λ (line : List ℕ). RefusedWith line r) (sym (append_assoc file (codes ": wrong kind ") (kind_word kind))) says) ((λ plain. other (is ∙ plain)), ap (λ (k : Kind). file ++ codes ": wrong kind " ++ kind_word k) is)
