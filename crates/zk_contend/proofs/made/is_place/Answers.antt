-- By its parent and its name: `no_parent`, `no_name`, `not_placed`, `placed_front`.
use Rattle.std.proofs.Common.{◌≡◌, ◌∙◌, ap, sym}
use Rattle.std.specs.Prelude.{bytes_eq}
use Rattle.std.proofs.lemmas.Str.Pattern.{starts_text}
use Rattle.zk_nodes.specs.Path.{path_of}
use Rattle.zk_nodes.specs.inner.Path.{is_below}
use Rattle.zk_nodes.proofs.PathTexts.{is_below-text}
use Rattle.zk_contend.proofs.Texts.{no_name, no_parent, not_placed, placed_front}
use Rattle.zk_contend.proofs.made.is_place.Goals as goal

pub returns-in_default : goal.returns-in_default
returns-in_default g c = no_parent (path_of c.args.directory.now) c.args.front.now (path_of c.args.path.now) c.in_default.ensures.names

pub returns-in_default-name : goal.returns-in_default-name
returns-in_default-name g c = no_name (path_of c.args.directory.now) c.args.front.now (path_of c.args.path.now) c.in_default-name.ensures

pub returns-then-eq : goal.returns-then-eq
returns-then-eq g c =
    let below : c.eq.result ≡ is_below (path_of c.args.directory.now) (path_of c.args.path.now) =
    is_below-text c.args.path.now c.args.directory.now c.in-Some.parent.now c.as_str.ensures.path c.in-Some.ensures.path
    c.in-Some.ensures.names c.eq.result (c.eq.ensures ∙ ap (bytes_eq c.in-Some.parent.now) c.as_str.ensures.text) in
    starts_text c.starts_with.result c.args.front.now c.in-Some-name.name.now c.starts_with.ensures.cases
    ∙ placed_front (path_of c.args.directory.now) c.args.front.now c.in-Some-name.name.now (path_of c.args.path.now) c.in-Some-name.ensures
    (sym below ∙ c.if-eq.true)

pub returns-else-eq : goal.returns-else-eq
returns-else-eq g c =
    let below : c.eq.result ≡ is_below (path_of c.args.directory.now) (path_of c.args.path.now) =
    is_below-text c.args.path.now c.args.directory.now c.in-Some.parent.now c.as_str.ensures.path c.in-Some.ensures.path
    c.in-Some.ensures.names c.eq.result (c.eq.ensures ∙ ap (bytes_eq c.in-Some.parent.now) c.as_str.ensures.text) in
    c.if-eq.false ∙ not_placed (path_of c.args.directory.now) c.args.front.now (path_of c.args.path.now) (sym below ∙ c.if-eq.false)
