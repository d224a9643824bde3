-- How the places of contenders are named.
use Rattle.std.specs.Prelude.{ℕ, Bool, List, [], ◌∷◌, ◌++◌, map, codes}
use Rattle.std.specs.List.{list_any}
use Rattle.zk_nodes.specs.Path.{Name}
use Rattle.zk_conclusions.specs.Numbers.{Kind, is_rival}
use Rattle.zk_contend.specs.declared.naming.Naming.{Naming}
use Rattle.zk_contend.specs.declared.naming.Naming.TheVariants.{Kazoo, KazooReader, CuratorLock, CuratorLatch, CuratorWriter, CuratorReader}
use Rattle.zk_contend.specs.declared.naming.Naming.TheVariants.{Lease}

abbrev pub own_in : Naming → Name
own_in Kazoo = codes "__lock__"
own_in KazooReader = codes "__rlock__"
own_in CuratorLock = codes "lock-"
own_in CuratorLatch = codes "latch-"
own_in CuratorWriter = codes "__WRIT__"
own_in CuratorReader = codes "__READ__"
own_in (Lease most) = codes "__lease__"

-- the markers of a family, whose contenders see one another: of kazoo, of Curator's locks, of its latches
abbrev pub of_kazoo : List Name
of_kazoo = codes "__lock__" ∷ codes "__rlock__" ∷ []

abbrev pub of_curator : List Name
of_curator = codes "lock-" ∷ codes "__WRIT__" ∷ codes "__READ__" ∷ []

abbrev pub of_latches : List Name
of_latches = codes "latch-" ∷ []

-- a reader waits for the locks and writers of its family, another one for each of its family
abbrev pub against_in : Naming → List Name
against_in Kazoo = of_kazoo
against_in KazooReader = codes "__lock__" ∷ []
against_in CuratorLatch = of_latches
against_in CuratorReader = codes "lock-" ∷ codes "__WRIT__" ∷ []
against_in (Lease most) = codes "__lease__" ∷ []
against_in _ = of_curator

abbrev pub kind_in : Naming → Kind
kind_in naming = record { own = own_in naming; against = against_in naming }

-- the markers of the other families, whose contenders do not see this one; a lease knows of none
abbrev pub others_in : Naming → List Name
others_in Kazoo = of_curator ++ of_latches
others_in KazooReader = of_curator ++ of_latches
others_in CuratorLatch = of_kazoo ++ of_curator
others_in (Lease most) = []
others_in _ = of_kazoo ++ of_latches

-- a contender that waited for those too
abbrev pub kind_of_all : Naming → Kind
kind_of_all naming = record { own = own_in naming; against = against_in naming ++ others_in naming }

-- before the ten digits of a number below 0 is a minus
abbrev pub with_minus : Name → Name
with_minus marker = marker ++ codes "-"

-- What is before the digits in names of the other families.
abbrev pub mixed_in : Naming → List Name
mixed_in naming = others_in naming ++ map with_minus (others_in naming)

abbrev pub mixed_kind : Naming → Kind
mixed_kind naming = record { own = own_in naming; against = mixed_in naming }

-- the name is that of a contender of another family
abbrev pub is_foreign : Naming → Name → Bool
is_foreign naming name = is_rival (mixed_kind naming) name

-- one of these names is
abbrev pub is_mixed : Naming → List Name → Bool
is_mixed naming names = list_any (is_foreign naming) names

-- how many of a directory may hold at once
abbrev pub most_in : Naming → ℕ
most_in (Lease most) = most
most_in _ = 1

-- what is before the guid in a name, and after it
abbrev pub before_guid : Naming → Name
before_guid Kazoo = []
before_guid KazooReader = []
before_guid (Lease most) = []
before_guid _ = codes "_c_"

abbrev pub behind_guid : Naming → Name
behind_guid Kazoo = codes "__lock__"
behind_guid KazooReader = codes "__rlock__"
behind_guid CuratorLock = codes "-lock-"
behind_guid CuratorLatch = codes "-latch-"
behind_guid CuratorWriter = codes "-__WRIT__"
behind_guid CuratorReader = codes "-__READ__"
behind_guid (Lease most) = codes "__lease__"
