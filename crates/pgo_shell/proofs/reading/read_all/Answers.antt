-- One more file is read, and at the end all are.
use Rattle.std.proofs.Common.{◌≡◌, Some, sym, ◌∙◌, arith, vec_len, slice_get}
use Rattle.std.proofs.lemmas.Option.{slice_get_within}
use Rattle.pgo_shell.proofs.ReadLemmas.{all_read, at_the_end, one_more_read}
use Rattle.pgo_shell.proofs.reading.read_all.Goals as goal

pub files-preserved : goal.files-preserved
files-preserved g c =
    let here : slice_get (g.C.Command.task c.args.command.now).reads (vec_len c.files.texts) ≡ Some c.in-Some.name.now = rw c.len.ensures at (sym c.in-Some.ensures) in
    let here_again : slice_get (g.C.Command.task c.args.command.now).reads c.len-in-Some.result ≡ Some c.in-Some.name.now = rw c.len-in-Some.ensures here in
    record {
      within = omega (arith, c.in_ok-push.ensures.len, slice_get_within (g.C.Command.task c.args.command.now).reads (vec_len c.files.texts) c.in-Some.name.now here);
      tells = λ told. c.in_ok-text.ensures.tells (c.files.invariant.tells told);
      same = λ told name. c.in_ok-text.ensures.same (c.files.invariant.tells told) name ∙ c.files.invariant.same told name;
      read = λ told. rw c.in_ok-push.ensures.len (one_more_read (g.S.Store.files c.args.store.now) (g.S.Store.files c.files.store) _ (vec_len c.files.texts) _ c.files.texts.items _ c.in_ok-text.text
          here (c.files.invariant.same told) (c.files.invariant.read told) (c.in_ok-text.ensures.text (c.files.invariant.tells told)) c.in_ok-push.ensures.items);
      quiet = c.in_ok-text.ensures.stops _ here_again ∙ c.files.invariant.quiet;
    }

pub returns-clause-texts : goal.returns-clause-texts
returns-clause-texts g c told =
    all_read _ _ _ _ (at_the_end _ (vec_len c.files.texts) (rw c.len.ensures at (sym c.in_default.ensures)) c.files.invariant.within) (c.files.invariant.read told)

pub returns-clause-count : goal.returns-clause-count
returns-clause-count g c =
    sym c.files.texts.ok.0 ∙ at_the_end _ (vec_len c.files.texts) (rw c.len.ensures at (sym c.in_default.ensures)) c.files.invariant.within
