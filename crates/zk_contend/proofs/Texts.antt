-- Names of paths.
use Rattle.std.proofs.Common.{◌≡◌, ◌∙◌, ◌∷◌, ◌&&◌, true, false, [], Some, None, refl, sym, ap, true≢false}
use Rattle.zk_nodes.specs.Path.{Name, NodePath, name_of, parent_of}
use Rattle.zk_conclusions.specs.Tags.{has_tag}
use Rattle.zk_nodes.specs.inner.Path.{is_below}
use Rattle.zk_contend.specs.Hearing.{is_place_in}

-- a path that does not lie below the directory is that of no place; of another one its name says so
pub not_placed : (dir : NodePath) (front : Name) (path : NodePath) → is_below dir path ≡ false → false ≡ is_place_in dir front path
not_placed dir front [] is = refl
not_placed dir front (name ∷ path) is = sym (ap (λ b. b && has_tag front name) is)

pub no_parent : (dir : NodePath) (front : Name) (path : NodePath) → None ≡ parent_of path → false ≡ is_place_in dir front path
no_parent dir front [] is = refl
no_parent dir front (name ∷ path) is = absurd cc

pub no_name : (dir : NodePath) (front : Name) (path : NodePath) → None ≡ name_of path → false ≡ is_place_in dir front path
no_name dir front [] is = refl
no_name dir front (name ∷ path) is = absurd cc

pub placed_front : (dir : NodePath) (front name : Name) (path : NodePath) → Some name ≡ name_of path → is_below dir path ≡ true
    → has_tag front name ≡ is_place_in dir front path
placed_front dir front name [] named is = absurd (true≢false (sym is))
placed_front dir front name (own ∷ path) named is =
    let same : name ≡ own = cc in ap (has_tag front) same ∙ sym (ap (λ b. b && has_tag front own) is)
