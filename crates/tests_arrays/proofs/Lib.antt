mod Decodes
mod DirectCalls
mod NewStores
mod UpgradedStores
