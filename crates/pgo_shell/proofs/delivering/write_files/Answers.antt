-- One more file is written, and at the end all are.
use Rattle.std.proofs.Common.{◌≡◌, ◌<◌, Some, List, ℕ, sym, refl, ap, ◌∙◌, arith, length}
use Rattle.std.specs.List.{slice_get}
use Rattle.std.specs.Option.{option_map}
use Rattle.std.proofs.lemmas.Option.{slice_get_within, slice_get-map, slice_get_read}
use Rattle.pgo_shell.specs.Product.{bytes_of, bytes_of_all}
use Rattle.pgo_shell.proofs.DeliverLemmas.{all_written, written_more}
use Rattle.pgo_shell.proofs.ReadLemmas.{at_the_end}
use Rattle.pgo_shell.proofs.delivering.write_files.Goals as goal

pub files-preserved : goal.files-preserved
files-preserved g c =
    let names : List (List ℕ) = (g.C.Command.task c.args.command.now).writes in
    let here : slice_get names c.files.index ≡ Some c.in-Some.name.now = sym c.in-Some.ensures in
    let within : c.files.index < length names = slice_get_within names c.files.index c.in-Some.name.now here in
    let in_files : c.files.index < length c.args.files.now = omega (arith, within, c.requires) in
    let there : slice_get (bytes_of_all c.args.files.now) c.files.index ≡ Some c.deref.result.now =
    slice_get-map bytes_of c.args.files.now c.files.index
    ∙ ap (option_map bytes_of) (slice_get_read c.args.files.now _ c.files.index c.index-files-index.result refl in_files c.index-files-index.is)
    ∙ ap Some (sym c.deref.ensures.value) in
    record {
      within = omega (arith, within);
      tells = λ told. (c.in-Ok.ensures.leaves (c.files.invariant.tells told)).0;
      written = λ told. written_more names (bytes_of_all c.args.files.now) c.files.index c.in-Some.name.now c.deref.result.now
          (g.S.Store.files c.args.store.now) (g.S.Store.files c.files.store) (g.S.Store.files c.write_file.new.self)
          here there (c.files.invariant.written told) (c.in-Ok.ensures.leaves (c.files.invariant.tells told)).1;
      quiet = c.in-Ok.ensures.fails ∙ c.files.invariant.quiet;
    }

pub returns-clause-left : goal.returns-clause-left
returns-clause-left g c told =
    all_written (g.C.Command.task c.args.command.now).writes (bytes_of_all c.args.files.now) c.files.index (g.S.Store.files c.args.store.now) (g.S.Store.files c.files.store) (at_the_end _ c.files.index (sym c.in_default.ensures) c.files.invariant.within) (c.files.invariant.written told)
