use Rattle.std.proofs.Common.{◌≡◌, ap, arith}
use Rattle.implicit_tiling.specs.Scene.{Layout}
use Rattle.implicit_tileset.specs.Scene.{subtree_name}
use Rattle.subtree_outcome.proofs.Reading.{name_is, told_same, told_file, fetched_file, told_too_long, fetched_too_long}
use Rattle.subtree_outcome.proofs.outcome.read_subtree.Goals as goal

pub returns-in-Whole-clause-told : goal.returns-in-Whole-clause-told
returns-in-Whole-clause-told g c =
    let told = g.S.FileSource.told c.args.files.now in
    let scheme = ap (λ (l : Layout). l.scheme) c.layout.view_is in
    let template = ap (λ (l : Layout). l.subtree) c.layout.view_is in
    let name : c.as_str.result.now ≡ subtree_name c.args.layout.now c.args.root =
    name_is c.args.layout.now c.args.root _ _ _ _ _ _ _ c.as_str.ensures.value c.in_ok-fill.ensures.filled c.new-name.ensures.bytes c.axes.ensures scheme template c.root.view_is in
    told_file told c.args.layout.now c.args.root c.as_str.result.now _ c.deref.result.now c.read_file.result name c.in-Whole.ensures.found (omega (arith, c.fetch.ensures.fits)) c.deref.ensures.value
    (told_same (g.S.FileSource.told c.fetch.new.self) told _ c.fetch.ensures.same c.read_file.ensures.told)

pub returns-in-Whole-clause-fetched : goal.returns-in-Whole-clause-fetched
returns-in-Whole-clause-fetched g c =
    let told = g.S.FileSource.told c.args.files.now in
    let scheme = ap (λ (l : Layout). l.scheme) c.layout.view_is in
    let template = ap (λ (l : Layout). l.subtree) c.layout.view_is in
    let name : c.as_str.result.now ≡ subtree_name c.args.layout.now c.args.root =
    name_is c.args.layout.now c.args.root _ _ _ _ _ _ _ c.as_str.ensures.value c.in_ok-fill.ensures.filled c.new-name.ensures.bytes c.axes.ensures scheme template c.root.view_is in
    fetched_file told c.args.layout.now c.args.root c.as_str.result.now _ c.deref.result.now c.read_file.result _ _ _ name c.in-Whole.ensures.found (omega (arith, c.fetch.ensures.fits)) c.deref.ensures.value
    c.fetch.ensures.counted c.read_file.ensures.fetched

pub returns-in-TooLong-clause-told : goal.returns-in-TooLong-clause-told
returns-in-TooLong-clause-told g c =
    let scheme = ap (λ (l : Layout). l.scheme) c.layout.view_is in
    let template = ap (λ (l : Layout). l.subtree) c.layout.view_is in
    let name : c.as_str.result.now ≡ subtree_name c.args.layout.now c.args.root =
    name_is c.args.layout.now c.args.root _ _ _ _ _ _ _ c.as_str.ensures.value c.in_ok-fill.ensures.filled c.new-name.ensures.bytes c.axes.ensures scheme template c.root.view_is in
    told_too_long (g.S.FileSource.told c.args.files.now) c.args.layout.now c.args.root c.as_str.result.now name c.in-TooLong.ensures.found

pub returns-in-TooLong-clause-fetched : goal.returns-in-TooLong-clause-fetched
returns-in-TooLong-clause-fetched g c =
    let scheme = ap (λ (l : Layout). l.scheme) c.layout.view_is in
    let template = ap (λ (l : Layout). l.subtree) c.layout.view_is in
    let name : c.as_str.result.now ≡ subtree_name c.args.layout.now c.args.root =
    name_is c.args.layout.now c.args.root _ _ _ _ _ _ _ c.as_str.ensures.value c.in_ok-fill.ensures.filled c.new-name.ensures.bytes c.axes.ensures scheme template c.root.view_is in
    fetched_too_long (g.S.FileSource.told c.args.files.now) c.args.layout.now c.args.root c.as_str.result.now _ _ name c.in-TooLong.ensures.found c.fetch.ensures.counted
